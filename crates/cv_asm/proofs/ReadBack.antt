-- Operands are read back from their texts.
use Rattle.std.proofs.Common.{◌≡◌, ℕ, ◌+◌, ◌*◌, ◌-◌, ◌/◌, ◌%◌, ◌^◌, ◌<◌, ◌≤◌, Bool, true, false, cond, ◌==◌, ◌&&◌, nat_lt, zero, suc, List, [], ◌∷◌, ◌++◌, length, replicate, Option, Some, Result, Ok, refl, ap, ◌∙◌, arith, length-append}
use Rattle.std.proofs.lemmas.Bool.Decides.{nat_tests}
use Rattle.std.proofs.lemmas.Fmt.{decimal_digit, decimal_step, decimal_is_IsNumeral, digits_is_IsNumeral}
use Rattle.std.specs.Char.{digit_value, is_ascii_digit, is_digit}
use Rattle.std.specs.Fmt.{decimal, digits}
use Rattle.std.specs.List.{list_all}
use Rattle.std.specs.Option.{ok_or, option_map, option_map_or}
use Rattle.std.specs.Str.Parse.{AllDigits, IsNumeral, digits_value, digits_value_after}
use Rattle.cv_base.specs.Text.{address_text}
use Rattle.cv_asm.specs.declared.fault.LineFault.{LineFault}
use Rattle.cv_asm.specs.declared.fault.LineFault.TheVariants.{BadOperand}
use Rattle.cv_asm.specs.declared.numbers.Number.{Number}
use Rattle.cv_asm.specs.declared.shapes.Kind.TheVariants as kind
use Rattle.cv_asm.specs.Listing.{register_text, signed_text}
use Rattle.cv_asm.specs.Operands.{digits_in, is_even, is_within, label_offset, number, number_in, one_digit, operand_in, register_in, size_in, two_digits, value_of, value_where}
use Rattle.cv_asm.specs.Results.{and_then, only_where}
use Rattle.cv_asm.proofs.Cutting.{IsPiece, both_of, is_plain}

-- ---- digits

-- a digit's value is at most 35 where it is one, so it is no separator, `#` or line feed
digit_plain : (c : ℕ) (b : Bool) → digit_value c < 16 → is_plain c ≡ b → b ≡ true
digit_plain c true small is = refl
digit_plain c false small is = absurd (grind (arith, nat_tests))

pub all_plain_digits : (base : ℕ) (ds : List ℕ) → base ≤ 16 → AllDigits base ds → list_all is_plain ds ≡ true
all_plain_digits base [] small all = refl
all_plain_digits base (c ∷ cs) small all = both_of (is_plain c) (list_all is_plain cs) (digit_plain c (is_plain c) (omega (arith, all.0)) refl) (all_plain_digits base cs small all.1)

lt_test : (a b : ℕ) (t : Bool) → a < b → nat_lt a b ≡ t → t ≡ true
lt_test a b true lt is = refl
lt_test a b false lt is = absurd (grind (arith, nat_tests))

pub all_digits : (base : ℕ) (ds : List ℕ) → AllDigits base ds → list_all (λ c. is_digit c base) ds ≡ true
all_digits base [] all = refl
all_digits base (c ∷ cs) all = both_of (is_digit c base) (list_all (λ d. is_digit d base) cs) (lt_test (digit_value c) base (is_digit c base) all.0 refl) (all_digits base cs all.1)

pub digits_read : (base : ℕ) (ds : List ℕ) → 0 < length ds → list_all (λ c. is_digit c base) ds ≡ true → digits_in base ds ≡ Some (digits_value base ds)
digits_read base ds some all = ap (λ b. only_where b (digits_value base ds)) (both_of (nat_lt 0 (length ds)) (list_all (λ c. is_digit c base) ds) (lt_test 0 (length ds) (nat_lt 0 (length ds)) some refl) all)

pub piece_of_digits : (base : ℕ) (ds : List ℕ) → base ≤ 16 → IsNumeral base ds → IsPiece ds
piece_of_digits base ds small numeral = record { some = lt_test 0 (length ds) (nat_lt 0 (length ds)) numeral.0 refl; plain = all_plain_digits base ds small numeral.1 }

piece_cons : (c : ℕ) (s : List ℕ) → is_plain c ≡ true → IsPiece s → IsPiece (c ∷ s)
piece_cons c s plain piece = record { some = lt_test 0 (length (c ∷ s)) (nat_lt 0 (length (c ∷ s))) (omega arith) refl; plain = both_of (is_plain c) (list_all is_plain s) plain piece.plain }

-- ---- registers

one_read : (a : ℕ) → a < 10 → register_in (120 ∷ (48 + a) ∷ []) ≡ Some a
one_read a small =
    let digit : is_ascii_digit (48 + a) ≡ true = grind (arith, nat_tests) in
    let value : one_digit (48 + a) ≡ a = omega arith in
    ap (λ b. only_where b (one_digit (48 + a))) digit ∙ ap Some value

two_read : (a b : ℕ) → 0 < a → a < 10 → b < 10 → 10 * a + b < 32 → register_in (120 ∷ (48 + a) ∷ (48 + b) ∷ []) ≡ Some (10 * a + b)
two_read a b some small_a small_b small =
    let first : is_ascii_digit (48 + a) ≡ true = grind (arith, nat_tests) in
    let second : is_ascii_digit (48 + b) ≡ true = grind (arith, nat_tests) in
    let led : nat_lt 48 (48 + a) ≡ true = grind (arith, nat_tests) in
    let value : two_digits (48 + a) (48 + b) ≡ 10 * a + b = omega arith in
    let below : nat_lt (two_digits (48 + a) (48 + b)) 32 ≡ true = grind (arith, nat_tests) in
    ap (λ t. only_where t (two_digits (48 + a) (48 + b)))
    (both_of (is_ascii_digit (48 + a)) _ first (both_of (is_ascii_digit (48 + b)) _ second (both_of (nat_lt 48 (48 + a)) _ led below)))
    ∙ ap Some value

register_by : (r : ℕ) (b : Bool) → nat_lt r 10 ≡ b → r < 32 → register_in (register_text r) ≡ Some r
register_by r true is small =
    let low : r < 10 = grind (arith, nat_tests) in
    ap (λ ds. register_in (120 ∷ ds)) (decimal_digit r low) ∙ one_read r low
register_by r false is small =
    let high : 10 ≤ r = grind (arith, nat_tests) in
    let fits : r < 2 ^ 64 = omega arith in
    let first : decimal (r / 10) ≡ (48 + r / 10) ∷ [] = decimal_digit (r / 10) (omega arith) in
    let whole : 10 * (r / 10) + r % 10 ≡ r = omega arith in
    ap (λ ds. register_in (120 ∷ ds)) (decimal_step r high fits ∙ ap (λ ds. ds ++ (48 + r % 10) ∷ []) first)
    ∙ two_read (r / 10) (r % 10) (omega arith) (omega arith) (omega arith) (omega arith) ∙ ap Some whole

pub register_back : (places : List ℕ → Option ℕ) (place k r : ℕ) → r < 32 → operand_in places place k kind.Register (register_text r) ≡ Ok r
unfolding operand_in
register_back places place k r small = ap (λ o. ok_or o (BadOperand k)) (register_by r (nat_lt r 10) refl small)

pub register_piece : (r : ℕ) → r < 32 → IsPiece (register_text r)
register_piece r small = piece_cons 120 (decimal r) refl (piece_of_digits 10 (decimal r) (omega arith) (decimal_is_IsNumeral r (omega arith)).0)

-- ---- numbers

digit_is_not : (c other : ℕ) (b : Bool) → digit_value c < 10 → 10 ≤ digit_value other → (c == other) ≡ b → b ≡ false
digit_is_not c other false small large is = refl
digit_is_not c other true small large is =
    let same : c ≡ other = grind (arith, nat_tests) in
    absurd (omega (arith, ap digit_value same))

plain_by : (ds : List ℕ) (n : ℕ) → IsNumeral 10 ds → digits_in 10 ds ≡ Some n → number_in ds ≡ Some (number false n)
plain_by [] n numeral is = absurd (omega (arith, numeral.0))
plain_by (a ∷ []) n numeral is =
    ap (λ b. cond b (option_map (number true) (digits_in 10 [])) (option_map (number false) (digits_in 10 (a ∷ [])))) (digit_is_not a 45 (a == 45) numeral.1.0 (omega arith) refl)
    ∙ ap (option_map (number false)) is
plain_by (a ∷ b ∷ rest) n numeral is =
    ap (λ t. cond t (option_map (number true) (digits_in 10 (b ∷ rest))) (option_map (number false) (size_in (a ∷ b ∷ rest)))) (digit_is_not a 45 (a == 45) numeral.1.0 (omega arith) refl)
    ∙ ap (λ t. option_map (number false) (cond t (digits_in 16 rest) (digits_in 10 (a ∷ b ∷ rest)))) (second_off (a == 48) (b == 120) (digit_is_not b 120 (b == 120) numeral.1.1.0 (omega arith) refl))
    ∙ ap (option_map (number false)) is
  where
    second_off : (s t : Bool) → t ≡ false → (s && t) ≡ false
    second_off true t off = off
    second_off false t off = refl

decimal_read : (n : ℕ) → n < 2 ^ 64 → digits_in 10 (decimal n) ≡ Some n
decimal_read n small =
    let numeral = decimal_is_IsNumeral n small in
    digits_read 10 (decimal n) numeral.0.0 (all_digits 10 (decimal n) numeral.0.1) ∙ ap Some numeral.1

pub plain_back : (n : ℕ) → n < 2 ^ 64 → number_in (decimal n) ≡ Some (number false n)
plain_back n small = plain_by (decimal n) n (decimal_is_IsNumeral n small).0 (decimal_read n small)

minus_back : (n : ℕ) → n < 2 ^ 64 → number_in (45 ∷ decimal n) ≡ Some (number true n)
minus_back n small = ap (option_map (number true)) (decimal_read n small)

-- a 32-bit number as a sign and a size
abbrev pub signed : ℕ → Number
signed n = cond (nat_lt n (2 ^ 31)) (number false n) (number true (2 ^ 32 - n))

pub signed_back : (n : ℕ) → n < 2 ^ 32 → number_in (signed_text n) ≡ Some (signed n)
signed_back n small = at (nat_lt n (2 ^ 31))
  where
    at : (b : Bool) → number_in (cond b (decimal n) (45 ∷ decimal (2 ^ 32 - n))) ≡ Some (cond b (number false n) (number true (2 ^ 32 - n)))
    at true = plain_back n (omega arith)
    at false = minus_back (2 ^ 32 - n) (omega arith)

pub signed_piece : (n : ℕ) → n < 2 ^ 32 → IsPiece (signed_text n)
signed_piece n small = at (nat_lt n (2 ^ 31))
  where
    at : (b : Bool) → IsPiece (cond b (decimal n) (45 ∷ decimal (2 ^ 32 - n)))
    at true = piece_of_digits 10 (decimal n) (omega arith) (decimal_is_IsNumeral n (omega arith)).0
    at false = piece_cons 45 (decimal (2 ^ 32 - n)) refl (piece_of_digits 10 (decimal (2 ^ 32 - n)) (omega arith) (decimal_is_IsNumeral (2 ^ 32 - n) (omega arith)).0)

pub decimal_piece : (n : ℕ) → n < 2 ^ 32 → IsPiece (decimal n)
decimal_piece n small = piece_of_digits 10 (decimal n) (omega arith) (decimal_is_IsNumeral n (omega arith)).0

-- a number from −low to high, as a 32-bit number
pub record Ranges (low high n : ℕ) : Type 0 where
  pub small : n < 2 ^ 32
  pub few : low < 2 ^ 31
  pub below : high < 2 ^ 31
  pub positive : n < 2 ^ 31 → n ≤ high
  pub negative : 2 ^ 31 ≤ n → 2 ^ 32 - n ≤ low

signed_within : (low high n : ℕ) → Ranges low high n → is_within low high (signed n) ≡ true
signed_within low high n ranges = at (nat_lt n (2 ^ 31)) refl
  where
    at : (b : Bool) → nat_lt n (2 ^ 31) ≡ b → is_within low high (cond b (number false n) (number true (2 ^ 32 - n))) ≡ true
    at true is =
        let lt : n < 2 ^ 31 = grind (arith, nat_tests) in
        let le : n ≤ high = ranges.positive lt in
        grind (arith, nat_tests)
    at false is =
        let ge : 2 ^ 31 ≤ n = grind (arith, nat_tests) in
        let le : 2 ^ 32 - n ≤ low = ranges.negative ge in
        grind (arith, nat_tests)

signed_value : (n : ℕ) → n < 2 ^ 32 → value_of (signed n) ≡ n
signed_value n small = at (nat_lt n (2 ^ 31)) refl
  where
    at : (b : Bool) → nat_lt n (2 ^ 31) ≡ b → value_of (cond b (number false n) (number true (2 ^ 32 - n))) ≡ n
    at true is = refl
    at false is =
        let ge : 2 ^ 31 ≤ n = grind (arith, nat_tests) in
        omega arith

signed_even : (n : ℕ) → n < 2 ^ 32 → n % 2 ≡ 0 → is_even (signed n) ≡ true
signed_even n small even = at (nat_lt n (2 ^ 31))
  where
    even_test : (m : ℕ) → m % 2 ≡ 0 → (m % 2 == 0) ≡ true
    even_test m is = ap (λ r. r == 0) is

    at : (b : Bool) → is_even (cond b (number false n) (number true (2 ^ 32 - n))) ≡ true
    at true = even_test n even
    at false = even_test (2 ^ 32 - n) (omega arith)

pub number_back : (places : List ℕ → Option ℕ) (place k low high n : ℕ) → Ranges low high n → operand_in places place k (kind.Number low high) (signed_text n) ≡ Ok n
unfolding operand_in
number_back places place k low high n ranges =
    let okay : ℕ → Result ℕ LineFault = λ m. Ok m in
    ap (λ o. and_then (ok_or o (BadOperand k)) (λ m. value_where (is_within low high m) k m)) (signed_back n ranges.small)
    ∙ ap (λ b. value_where b k (signed n)) (signed_within low high n ranges) ∙ ap okay (signed_value n ranges.small)

pub target_back : (places : List ℕ → Option ℕ) (place k low high n : ℕ) → Ranges low high n → n % 2 ≡ 0 → operand_in places place k (kind.Target low high) (signed_text n) ≡ Ok n
unfolding operand_in
target_back places place k low high n ranges even =
    let okay : ℕ → Result ℕ LineFault = λ m. Ok m in
    ap (λ o. and_then (option_map_or Ok o (label_offset places place k (signed_text n))) (λ m. value_where (is_within low high m && is_even m) k m)) (signed_back n ranges.small)
    ∙ ap (λ b. value_where b k (signed n)) (both_of (is_within low high (signed n)) (is_even (signed n)) (signed_within low high n ranges) (signed_even n ranges.small even)) ∙ ap okay (signed_value n ranges.small)

pub upper_back : (places : List ℕ → Option ℕ) (place k n : ℕ) → n < 2 ^ 20 → operand_in places place k (kind.Number 0 1048575) (decimal n) ≡ Ok n
unfolding operand_in
upper_back places place k n small =
    let within : is_within 0 1048575 (number false n) ≡ true = grind (arith, nat_tests) in
    ap (λ o. and_then (ok_or o (BadOperand k)) (λ m. value_where (is_within 0 1048575 m) k m)) (plain_back n (omega arith))
    ∙ ap (λ b. value_where b k (number false n)) within

-- ---- words as numbers

zeros_value : (k : ℕ) (ds : List ℕ) → digits_value_after 16 0 (replicate k 48 ++ ds) ≡ digits_value_after 16 0 ds
zeros_value zero ds = refl
zeros_value (suc k) ds = zeros_value k ds

zeros_digits : (k : ℕ) (ds : List ℕ) → AllDigits 16 ds → AllDigits 16 (replicate k 48 ++ ds)
zeros_digits zero ds all = all
zeros_digits (suc k) ds all = (omega arith, zeros_digits k ds all)

pub address_numeral : (w : ℕ) → w < 2 ^ 32 → IsNumeral 16 (address_text w)
address_numeral w small =
    let numeral = digits_is_IsNumeral 16 true (omega arith) (omega arith) w (omega arith) in
    let long : 0 < length (digits 16 true w) = numeral.0.0 in
    (simp length-append (omega arith), zeros_digits (8 - length (digits 16 true w)) (digits 16 true w) numeral.0.1)

address_value : (w : ℕ) → w < 2 ^ 32 → digits_value 16 (address_text w) ≡ w
address_value w small =
    let numeral = digits_is_IsNumeral 16 true (omega arith) (omega arith) w (omega arith) in
    zeros_value (8 - length (digits 16 true w)) (digits 16 true w) ∙ numeral.1

pub data_piece : (w : ℕ) → w < 2 ^ 32 → IsPiece (48 ∷ 120 ∷ address_text w)
data_piece w small = piece_cons 48 (120 ∷ address_text w) refl (piece_cons 120 (address_text w) refl (piece_of_digits 16 (address_text w) (omega arith) (address_numeral w small)))

pub data_back : (places : List ℕ → Option ℕ) (place k w : ℕ) → w < 2 ^ 32 → operand_in places place k (kind.Number 0 4294967295) (48 ∷ 120 ∷ address_text w) ≡ Ok w
unfolding operand_in
data_back places place k w small =
    let numeral = address_numeral w small in
    let read : digits_in 16 (address_text w) ≡ Some w = digits_read 16 (address_text w) numeral.0 (all_digits 16 (address_text w) numeral.1) ∙ ap Some (address_value w small) in
    let within : is_within 0 4294967295 (number false w) ≡ true = grind (arith, nat_tests) in
    ap (λ o. and_then (ok_or (option_map (number false) o) (BadOperand k)) (λ m. value_where (is_within 0 4294967295 m) k m)) read
    ∙ ap (λ b. value_where b k (number false w)) within
