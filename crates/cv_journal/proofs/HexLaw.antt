-- Hexadecimal digits: addresses, and bytes.
use Rattle.std.proofs.Common.{◌≡◌, ℕ, zero, suc, ◌+◌, ◌-◌, ◌*◌, ◌/◌, ◌%◌, ◌^◌, ◌<◌, ◌≤◌, ◌==◌, ◌&&◌, Bool, true, false, not, cond, List, [], ◌∷◌, ◌++◌, ◌∙◌, Some, None, length, codes, refl, sym, ap, arith, subst, eq-eqb, eqb-true, lt-ltb, add-zero, zero-add, inl, inr, ◌⊎◌}
use Rattle.std.specs.Prelude.{nat_le, bytes_eq, option_and_then, option_map, replicate, unwrap_or, nat_lt}
use Rattle.std.specs.Cmp.Lexicographic.{bytes_decides}
use Rattle.std.specs.Fmt.{digit_glyph, digits, digits_onto}
use Rattle.std.specs.Int.{is_in_range}
use Rattle.std.specs.List.{AllByRecursion}
use Rattle.std.proofs.lemmas.Bool.{and_parts, and_from, both_ways, cases_lt, eqb-false, false_from_ne_true, le-ltb, leb-true, ne_eqb}
use Rattle.cv_base.specs.Text.{address_text}
use Rattle.cv_runs.specs.PlainText.{bytes_text, hex_text}
use Rattle.cv_journal.specs.EntryReading.{is_number}
use Rattle.cv_journal.specs.LineOf.{IsByte, IsWord}
use Rattle.cv_journal.specs.Reading.{address_in, both, byte_pairs, bytes_in, hex_behind, hex_digit, only_where, some_pairs}
use Rattle.cv_journal.proofs.CutLaw.{lacks}
use Rattle.cv_journal.proofs.ReadBack.{Reads, and_then_back, both_back, is_number_so, map_back, where_back}

-- ---- one digit

-- the test of the first n digits, which computes
abbrev all_back : Bool → ℕ → ℕ → Bool
all_back upper letter zero = true
all_back upper letter (suc n) = is_number n (hex_digit letter (digit_glyph upper n)) && all_back upper letter n

place : (upper : Bool) (letter n d : ℕ) → (d < n) ⊎ (n ≤ d) → (d < n → hex_digit letter (digit_glyph upper d) ≡ Some d) → hex_digit letter (digit_glyph upper n) ≡ Some n
    → d < suc n → hex_digit letter (digit_glyph upper d) ≡ Some d
place upper letter n d (inl less) rec here below = rec less
place upper letter n d (inr most) rec here below =
    let same : n ≡ d = omega arith in
    subst (λ (k : ℕ). hex_digit letter (digit_glyph upper k) ≡ Some k) same here

all_back_at : (upper : Bool) (letter n d : ℕ) → all_back upper letter n ≡ true → d < n → hex_digit letter (digit_glyph upper d) ≡ Some d
all_back_at upper letter zero d h below = absurd (omega arith)
all_back_at upper letter (suc n) d h below =
    let parts : (is_number n (hex_digit letter (digit_glyph upper n)) ≡ true) × (all_back upper letter n ≡ true) = and_parts _ _ h in
    place upper letter n d (cases_lt d n) (λ less. all_back_at upper letter n d parts.1 less) (is_number_so n (hex_digit letter (digit_glyph upper n)) parts.0) below

upper_forth : (d : ℕ) → d < 16 → hex_digit 65 (digit_glyph true d) ≡ Some d
upper_forth d small = all_back_at true 65 16 d refl small

lower_forth : (d : ℕ) → d < 16 → hex_digit 97 (digit_glyph false d) ≡ Some d
lower_forth d small = all_back_at false 97 16 d refl small

in_range : (low high c : ℕ) → is_in_range low high c ≡ true → (low ≤ c) × (c ≤ high)
in_range low high c h = let parts : (nat_le low c ≡ true) × (nat_le c high ≡ true) = and_parts _ _ h in (leb-true _ _ parts.0, leb-true _ _ parts.1)

-- a digit is one of ten, or a letter of six
abbrev IsHexDigit : ℕ → ℕ → ℕ → Type 0
IsHexDigit letter c d = ((48 ≤ c) × (c ≤ 57) × (d ≡ c - 48)) ⊎ ((letter ≤ c) × (c ≤ letter + 5) × (d ≡ c + 10 - letter))

digit_cases : (letter c d : ℕ) (low high : Bool) → is_in_range 48 57 c ≡ low → is_in_range letter (letter + 5) c ≡ high
    → cond low (Some (c - 48)) (only_where high (Some (c + 10 - letter))) ≡ Some d → IsHexDigit letter c d
digit_cases letter c d true high is it h = let r = in_range 48 57 c is in inl (r.0, r.1, ap (λ o. unwrap_or o d) (sym h))
digit_cases letter c d false true is it h = let r = in_range letter (letter + 5) c it in inr (r.0, r.1, ap (λ o. unwrap_or o d) (sym h))
digit_cases letter c d false false is it h = absurd (cc)

glyph_low : (upper : Bool) (c d : ℕ) → 48 ≤ c → c ≤ 57 → d ≡ c - 48 → c ≡ digit_glyph upper d
glyph_low upper c d low high is = let lt : nat_lt d 10 ≡ true = lt-ltb _ _ (omega arith) in rw lt (omega arith)

glyph_upper : (c d : ℕ) → 65 ≤ c → c ≤ 65 + 5 → d ≡ c + 10 - 65 → c ≡ digit_glyph true d
glyph_upper c d low high is = let ge : nat_lt d 10 ≡ false = le-ltb _ _ (omega arith) in rw ge (omega arith)

glyph_lower : (c d : ℕ) → 97 ≤ c → c ≤ 97 + 5 → d ≡ c + 10 - 97 → c ≡ digit_glyph false d
glyph_lower c d low high is = let ge : nat_lt d 10 ≡ false = le-ltb _ _ (omega arith) in rw ge (omega arith)

upper_back : (c d : ℕ) → hex_digit 65 c ≡ Some d → (d < 16) × (c ≡ digit_glyph true d)
upper_back c d h =
    let digit : IsHexDigit 65 c d = digit_cases 65 c d (is_in_range 48 57 c) (is_in_range 65 70 c) refl refl h in
    elim digit [
      | inl low ↦ (omega arith, glyph_low true c d low.0 low.1 low.2)
      | inr high ↦ (omega arith, glyph_upper c d high.0 high.1 high.2)
    ]

lower_back : (c d : ℕ) → hex_digit 97 c ≡ Some d → (d < 16) × (c ≡ digit_glyph false d)
lower_back c d h =
    let digit : IsHexDigit 97 c d = digit_cases 97 c d (is_in_range 48 57 c) (is_in_range 97 102 c) refl refl h in
    elim digit [
      | inl low ↦ (omega arith, glyph_low false c d low.0 low.1 low.2)
      | inr high ↦ (omega arith, glyph_lower c d high.0 high.1 high.2)
    ]

-- ---- k digits of n, in front of acc

abbrev glyphs : ℕ → ℕ → List ℕ → List ℕ
glyphs zero n acc = acc
glyphs (suc k) n acc = glyphs k (n / 16) (digit_glyph true (n % 16) ∷ acc)

-- the numbers of k digits are below this
abbrev pub limit : ℕ → ℕ
limit zero = 1
limit (suc k) = 16 * limit k

length_glyphs : (k n : ℕ) (acc : List ℕ) → length (glyphs k n acc) ≡ k + length acc
length_glyphs zero n acc = sym (zero-add (length acc))
length_glyphs (suc k) n acc = let e : length (glyphs k (n / 16) (digit_glyph true (n % 16) ∷ acc)) ≡ k + suc (length acc) = length_glyphs k (n / 16) (digit_glyph true (n % 16) ∷ acc) in omega arith

zero_at_end : (k : ℕ) (acc : List ℕ) → replicate k 48 ++ 48 ∷ acc ≡ 48 ∷ (replicate k 48 ++ acc)
zero_at_end zero acc = refl
zero_at_end (suc k) acc = ap (λ l. 48 ∷ l) (zero_at_end k acc)

zeros : (k : ℕ) (acc : List ℕ) → glyphs k 0 acc ≡ replicate k 48 ++ acc
zeros zero acc = refl
zeros (suc k) acc = zeros k (48 ∷ acc) ∙ zero_at_end k acc

some_places : (k m : ℕ) → 0 < m → m < limit k → 0 < k
some_places zero m some small = absurd (omega arith)
some_places (suc k) m some small = omega arith

padded_cases : (k j n : ℕ) (acc : List ℕ) (last : Bool) → (n / 16 == 0) ≡ last → n < limit (suc k)
    → (0 < k → replicate (k + length (digit_glyph true (n % 16) ∷ acc) - length (digits_onto j 16 true (n / 16) (digit_glyph true (n % 16) ∷ acc))) 48
    ++ digits_onto j 16 true (n / 16) (digit_glyph true (n % 16) ∷ acc) ≡ glyphs k (n / 16) (digit_glyph true (n % 16) ∷ acc))
    → replicate (suc k + length acc - length (cond last (digit_glyph true (n % 16) ∷ acc) (digits_onto j 16 true (n / 16) (digit_glyph true (n % 16) ∷ acc)))) 48
    ++ cond last (digit_glyph true (n % 16) ∷ acc) (digits_onto j 16 true (n / 16) (digit_glyph true (n % 16) ∷ acc))
    ≡ glyphs k (n / 16) (digit_glyph true (n % 16) ∷ acc)
padded_cases k j n acc true is small rec =
    let none : 0 ≡ n / 16 = sym (eqb-true (n / 16) 0 is) in
    let count : suc k + length acc - suc (length acc) ≡ k = omega arith in
    ap (λ i. replicate i 48 ++ digit_glyph true (n % 16) ∷ acc) count
    ∙ sym (zeros k (digit_glyph true (n % 16) ∷ acc))
    ∙ ap (λ m. glyphs k m (digit_glyph true (n % 16) ∷ acc)) none
padded_cases k j n acc false is small rec =
    let some : n / 16 ≡ 0 → ⊥ = eqb-false (n / 16) 0 is in
    let count : suc k + length acc ≡ k + suc (length acc) = omega arith in
    ap (λ i. replicate (i - length (digits_onto j 16 true (n / 16) (digit_glyph true (n % 16) ∷ acc))) 48 ++ digits_onto j 16 true (n / 16) (digit_glyph true (n % 16) ∷ acc)) count
    ∙ rec (some_places k (n / 16) (omega arith) (omega arith))

padded : (k j n : ℕ) (acc : List ℕ) → k ≤ j → 0 < k → n < limit k
    → replicate (k + length acc - length (digits_onto j 16 true n acc)) 48 ++ digits_onto j 16 true n acc ≡ glyphs k n acc
padded zero j n acc within some small = absurd (omega arith)
padded (suc k) zero n acc within some small = absurd (omega arith)
padded (suc k) (suc j) n acc within some small =
    padded_cases k j n acc (n / 16 == 0) refl small (λ more. padded k j (n / 16) (digit_glyph true (n % 16) ∷ acc) (omega arith) more (omega arith))

text_glyphs : (n : ℕ) → IsWord n → address_text n ≡ glyphs 8 n []
unfolding digits
text_glyphs n small = padded 8 64 n [] (omega arith) (omega arith) small

-- ---- addresses

limit_grows : (k : ℕ) → limit k ≤ limit (suc k)
limit_grows k = omega arith

limit_below : (k d : ℕ) → limit k ≤ limit (d + k)
limit_below k zero = let same : 0 + k ≡ k = omega arith in rw same (omega arith)
limit_below k (suc d) =
    let same : suc d + k ≡ suc (d + k) = omega arith in
    let rest : limit k ≤ limit (d + k) = limit_below k d in
    let more : limit (d + k) ≤ limit (suc (d + k)) = limit_grows (d + k) in
    rw same (omega arith)

-- a digit more has room in 32 bits, as long as there were fewer than eight
pub room_for_digit : (i n d : ℕ) → i < 8 → n < limit i → d < 16 → 16 * n + d < 2 ^ 32
room_for_digit i n d few small digit =
    let places : 7 - i + suc i ≡ 8 = omega arith in
    let whole : limit (suc i) ≤ limit 8 = subst (λ (k : ℕ). limit (suc i) ≤ limit k) places (limit_below (suc i) (7 - i)) in
    omega arith

pub one_more_digit : (i n d : ℕ) → n < limit i → d < 16 → 16 * n + d < limit (i + 1)
one_more_digit i n d small digit = let same : i + 1 ≡ suc i = omega arith in rw same (omega arith)

digits_forth : (k n : ℕ) (acc : List ℕ) → n < limit k → hex_behind 0 (glyphs k n acc) ≡ hex_behind n acc
digits_forth zero n acc small = let none : 0 ≡ n = omega arith in ap (λ m. hex_behind m acc) none
digits_forth (suc k) n acc small =
    let same : 16 * (n / 16) + n % 16 ≡ n = omega arith in
    digits_forth k (n / 16) (digit_glyph true (n % 16) ∷ acc) (omega arith)
    ∙ ap (option_and_then (λ d. hex_behind (16 * (n / 16) + d) acc)) (upper_forth (n % 16) (omega arith))
    ∙ ap (λ m. hex_behind m acc) same

digits_small : (s : List ℕ) (j m v : ℕ) → m < limit j → hex_behind m s ≡ Some v → v < limit (j + length s)
digits_small [] j m v small e = let is : m ≡ v = ap (λ o. unwrap_or o v) e in rw add-zero (subst (λ (k : ℕ). k < limit j) is small)
digits_small (c ∷ cs) j m v small e =
    let found = and_then_back (λ d. hex_behind (16 * m + d) cs) (hex_digit 65 c) v e in
    let digit : found.0 < 16 = (upper_back c found.0 found.1.0).0 in
    let rest : v < limit (suc j + length cs) = digits_small cs (suc j) (16 * m + found.0) v (omega arith) found.1.1 in
    let same : suc j + length cs ≡ j + suc (length cs) = omega arith in
    subst (λ (k : ℕ). v < limit k) same rest

same_digits : (s t : List ℕ) (m n v : ℕ) → length s ≡ length t → hex_behind m s ≡ Some v → hex_behind n t ≡ Some v → (m ≡ n) × (s ≡ t)
same_digits [] [] m n v long e f = (ap (λ o. unwrap_or o 0) (e ∙ sym f), refl)
same_digits [] (d ∷ ds) m n v long e f = absurd (omega arith)
same_digits (c ∷ cs) [] m n v long e f = absurd (omega arith)
same_digits (c ∷ cs) (d ∷ ds) m n v long e f =
    let one = and_then_back (λ x. hex_behind (16 * m + x) cs) (hex_digit 65 c) v e in
    let other = and_then_back (λ x. hex_behind (16 * n + x) ds) (hex_digit 65 d) v f in
    let here = upper_back c one.0 one.1.0 in
    let there = upper_back d other.0 other.1.0 in
    let low : one.0 < 16 = here.0 in
    let low_too : other.0 < 16 = there.0 in
    let rest = same_digits cs ds (16 * m + one.0) (16 * n + other.0) v (omega arith) one.1.1 other.1.1 in
    let sums : 16 * m + one.0 ≡ 16 * n + other.0 = rest.0 in
    let digit : one.0 ≡ other.0 = omega arith in
    let glyph : c ≡ d = here.1 ∙ ap (digit_glyph true) digit ∙ sym there.1 in
    (omega arith, ap (λ x. x ∷ cs) glyph ∙ ap (λ l. d ∷ l) rest.1)

none_some : (n : ℕ) → None ≡ Some n → ⊥
none_some n h = cc

hex_lacks : (mark : ℕ) (s : List ℕ) (m v : ℕ) → hex_digit 65 mark ≡ None → hex_behind m s ≡ Some v → lacks mark s ≡ true
hex_lacks mark [] m v other e = refl
hex_lacks mark (c ∷ cs) m v other e =
    let found = and_then_back (λ d. hex_behind (16 * m + d) cs) (hex_digit 65 c) v e in
    and_from _ _ (ap not (ne_eqb c mark (λ same. none_some found.0 (sym other ∙ ap (hex_digit 65) (sym same) ∙ found.1.0)))) (hex_lacks mark cs (16 * m + found.0) v other found.1.1)

length_address : (n : ℕ) → IsWord n → length (address_text n) ≡ 8
length_address n small = ap length (text_glyphs n small) ∙ length_glyphs 8 n []

address_value : (n : ℕ) → IsWord n → hex_behind 0 (address_text n) ≡ Some n
address_value n small = ap (hex_behind 0) (text_glyphs n small) ∙ digits_forth 8 n [] small

address_back : (s : List ℕ) (n : ℕ) → address_in s ≡ Some n → IsWord n × (s ≡ address_text n)
unfolding address_in
address_back s n e =
    let got = where_back (length s == 8) (hex_behind 0 s) n e in
    let long : length s ≡ 8 = eqb-true (length s) 8 got.0 in
    let below : n < limit (0 + length s) = digits_small s 0 0 n (omega arith) got.1 in
    let places : 0 + length s ≡ 8 = omega arith in
    let small : IsWord n = subst (λ (k : ℕ). n < limit k) places below in
    let as_long : length s ≡ length (address_text n) = long ∙ sym (length_address n small) in
    (small, (same_digits s (address_text n) 0 0 n as_long got.1 (address_value n small)).1)

address_forth : (n : ℕ) → IsWord n → address_in (address_text n) ≡ Some n
unfolding address_in
address_forth n small = ap (λ b. only_where b (hex_behind 0 (address_text n))) (eq-eqb _ _ (length_address n small)) ∙ address_value n small

pub address_reads : Reads IsWord address_text address_in
address_reads = record { back = address_back; forth = address_forth }

pub address_lacks : (mark : ℕ) → hex_digit 65 mark ≡ None → (n : ℕ) → IsWord n → lacks mark (address_text n) ≡ true
address_lacks mark other n small = hex_lacks mark (address_text n) 0 n other (address_value n small)

-- ---- bytes

abbrev byte_before : (ℕ × ℕ) × List ℕ → List ℕ
byte_before p = (16 * p.0.0 + p.0.1) ∷ p.1

pairs_back : (s bs : List ℕ) → byte_pairs s ≡ Some bs → AllByRecursion IsByte bs × (s ≡ hex_text bs)
pairs_back [] bs e =
    let none : [] ≡ bs = ap (λ o. unwrap_or o bs) e in
    subst (λ (l : List ℕ). AllByRecursion IsByte l × ([] ≡ hex_text l)) none (tt, refl)
pairs_back (a ∷ []) bs e = absurd (cc)
pairs_back (a ∷ b ∷ rest) bs e =
    let found = map_back byte_before (both (both (hex_digit 97 a) (hex_digit 97 b)) (byte_pairs rest)) bs e in
    let parts = both_back (both (hex_digit 97 a) (hex_digit 97 b)) (byte_pairs rest) found.0 found.1.0 in
    let two = both_back (hex_digit 97 a) (hex_digit 97 b) found.0.0 parts.0 in
    let high = lower_back a found.0.0.0 two.0 in
    let low = lower_back b found.0.0.1 two.1 in
    let more = pairs_back rest found.0.1 parts.1 in
    let above : found.0.0.0 < 16 = high.0 in
    let below : found.0.0.1 < 16 = low.0 in
    let first : found.0.0.0 ≡ (16 * found.0.0.0 + found.0.0.1) / 16 = omega arith in
    let second : found.0.0.1 ≡ (16 * found.0.0.0 + found.0.0.1) % 16 = omega arith in
    let byte : IsByte (16 * found.0.0.0 + found.0.0.1) = omega arith in
    subst (λ (l : List ℕ). AllByRecursion IsByte l × (a ∷ b ∷ rest ≡ hex_text l)) found.1.1 (
      (byte, more.0),
      ap (λ x. x ∷ b ∷ rest) (high.1 ∙ ap (digit_glyph false) first)
          ∙ ap (λ x. digit_glyph false ((16 * found.0.0.0 + found.0.0.1) / 16) ∷ x ∷ rest) (low.1 ∙ ap (digit_glyph false) second)
          ∙ ap (λ l. digit_glyph false ((16 * found.0.0.0 + found.0.0.1) / 16) ∷ digit_glyph false ((16 * found.0.0.0 + found.0.0.1) % 16) ∷ l) more.1,
    )

pairs_forth : (bs : List ℕ) → AllByRecursion IsByte bs → byte_pairs (hex_text bs) ≡ Some bs
pairs_forth [] fit = refl
pairs_forth (b ∷ bs) fit =
    let small : b < 256 = fit.0 in
    let same : 16 * (b / 16) + b % 16 ≡ b = omega arith in
    let high : hex_digit 97 (digit_glyph false (b / 16)) ≡ Some (b / 16) = lower_forth (b / 16) (omega arith) in
    let low : hex_digit 97 (digit_glyph false (b % 16)) ≡ Some (b % 16) = lower_forth (b % 16) (omega arith) in
    ap (λ o. option_map byte_before (both (both o (hex_digit 97 (digit_glyph false (b % 16)))) (byte_pairs (hex_text bs)))) high
    ∙ ap (λ o. option_map byte_before (both (both (Some (b / 16)) o) (byte_pairs (hex_text bs)))) low
    ∙ ap (λ o. option_map byte_before (both (Some (b / 16, b % 16)) o)) (pairs_forth bs fit.1)
    ∙ ap (λ n. Some (n ∷ bs)) same

pairs_lack : (mark : ℕ) (s bs : List ℕ) → hex_digit 97 mark ≡ None → byte_pairs s ≡ Some bs → lacks mark s ≡ true
pairs_lack mark [] bs other e = refl
pairs_lack mark (a ∷ []) bs other e = absurd (cc)
pairs_lack mark (a ∷ b ∷ rest) bs other e =
    let found = map_back byte_before (both (both (hex_digit 97 a) (hex_digit 97 b)) (byte_pairs rest)) bs e in
    let parts = both_back (both (hex_digit 97 a) (hex_digit 97 b)) (byte_pairs rest) found.0 found.1.0 in
    let two = both_back (hex_digit 97 a) (hex_digit 97 b) found.0.0 parts.0 in
    and_from _ _ (ap not (ne_eqb a mark (λ same. none_some found.0.0.0 (sym other ∙ ap (hex_digit 97) (sym same) ∙ two.0))))
    (and_from _ _ (ap not (ne_eqb b mark (λ same. none_some found.0.0.1 (sym other ∙ ap (hex_digit 97) (sym same) ∙ two.1)))) (pairs_lack mark rest found.0.1 other parts.1))

bytes_cases : (s bs : List ℕ) (none : Bool) → bytes_eq s (codes "-") ≡ none → cond none (Some []) (some_pairs s) ≡ Some bs
    → AllByRecursion IsByte bs × (s ≡ bytes_text bs)
bytes_cases s bs true is e =
    let none : [] ≡ bs = ap (λ o. unwrap_or o bs) e in
    subst (λ (l : List ℕ). AllByRecursion IsByte l × (s ≡ bytes_text l)) none (tt, (bytes_decides s (codes "-")).0 is)
bytes_cases [] bs false is e = absurd (cc)
bytes_cases (c ∷ cs) [] false is e = let got = pairs_back (c ∷ cs) [] e in absurd (cc got.1)
bytes_cases (c ∷ cs) (b ∷ bs) false is e = pairs_back (c ∷ cs) (b ∷ bs) e

bytes_back : (s bs : List ℕ) → bytes_in s ≡ Some bs → AllByRecursion IsByte bs × (s ≡ bytes_text bs)
unfolding bytes_in
bytes_back s bs e = bytes_cases s bs (bytes_eq s (codes "-")) refl e

bytes_forth : (bs : List ℕ) → AllByRecursion IsByte bs → bytes_in (bytes_text bs) ≡ Some bs
unfolding bytes_in
bytes_forth [] fit = refl
bytes_forth (b ∷ bs) fit =
    let other : bytes_eq (hex_text (b ∷ bs)) (codes "-") ≡ false = false_from_ne_true _ (λ h. both_ways false refl (and_parts _ _ h).1) in
    ap (λ t. cond t (Some []) (byte_pairs (hex_text (b ∷ bs)))) other ∙ pairs_forth (b ∷ bs) fit

pub bytes_reads : Reads (AllByRecursion IsByte) bytes_text bytes_in
bytes_reads = record { back = bytes_back; forth = bytes_forth }

pub bytes_lack : (mark : ℕ) → hex_digit 97 mark ≡ None → lacks mark (codes "-") ≡ true → (bs : List ℕ) → AllByRecursion IsByte bs → lacks mark (bytes_text bs) ≡ true
bytes_lack mark other dash [] fit = dash
bytes_lack mark other dash (b ∷ bs) fit = pairs_lack mark (hex_text (b ∷ bs)) (b ∷ bs) other (pairs_forth (b ∷ bs) fit)
