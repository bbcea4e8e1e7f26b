-- The number that decimal digits write.
use Rattle.std.proofs.Common.{◌≡◌, ℕ, zero, suc, ◌+◌, ◌-◌, ◌*◌, ◌^◌, ◌<◌, ◌≤◌, Bool, true, false, ◌&&◌, nat_lt, if◌then◌else◌, List, [], ◌∷◌, ◌∙◌, Option, Some, None, drop, get_or, length, refl, sym, ap, arith}
use Rattle.std.proofs.lemmas.Bool.{and_parts}
use Rattle.std.proofs.lemmas.Bool.Decides.{nat_tests}
use Rattle.std.proofs.lemmas.List.{drop_all}
use Rattle.std.specs.List.{list_all}
use Rattle.clearview.specs.Words.{few_digits, is_digit, number_from}

-- the number of some digits, where it is below 2^64
abbrev pub number_below : List ℕ → Option ℕ
number_below digits = if list_all is_digit digits && nat_lt (number_from 0 digits) (2 ^ 64) then Some (number_from 0 digits) else None

-- further digits make a number no smaller
grows : (n : ℕ) (digits : List ℕ) → n ≤ number_from n digits
grows n [] = omega arith
grows n (c ∷ cs) = let rest = grows (10 * n + (c - 48)) cs in omega arith

-- the digit at a place is read next
read_next : (n i : ℕ) (digits : List ℕ) → i < length digits → number_from n (drop i digits) ≡ number_from (10 * n + (get_or digits i 0 - 48)) (drop (i + 1) digits)
read_next n i [] within = absurd (omega arith)
read_next n zero (c ∷ cs) within = refl
read_next n (suc i) (c ∷ cs) within = let place : suc i + 1 ≡ suc (i + 1) = omega arith in rw place (read_next n i cs (omega arith))

none_above : (b : Bool) (n : ℕ) → 2 ^ 64 ≤ n → None ≡ (if b && nat_lt n (2 ^ 64) then Some n else None)
none_above true n above = grind (arith, nat_tests)
none_above false n above = refl

-- a number that is too large with the digit at a place stays so
pub too_large : (digits : List ℕ) (n i : ℕ) → i < length digits → number_from n (drop i digits) ≡ number_from 0 digits
    → 2 ^ 64 ≤ 10 * n + (get_or digits i 0 - 48) → None ≡ number_below digits
too_large digits n i within number above =
    let next = read_next n i digits within in
    let grown = grows (10 * n + (get_or digits i 0 - 48)) (drop (i + 1) digits) in
    none_above (list_all is_digit digits) (number_from 0 digits) (omega arith)

-- all digits are read
pub all_read : (digits : List ℕ) (n i : ℕ) → length digits ≤ i → n < 2 ^ 64 → number_from n (drop i digits) ≡ number_from 0 digits
    → list_all is_digit (drop i digits) ≡ list_all is_digit digits → Some n ≡ number_below digits
all_read digits n i past small number rest =
    let none = drop_all i digits past in
    let same : n ≡ number_from 0 digits = ap (number_from n) (sym none) ∙ number in
    let each : list_all is_digit digits ≡ true = sym rest ∙ ap (list_all is_digit) none in
    grind (arith, nat_tests)

-- ---- a few digits

digit_small : (c : ℕ) → is_digit c ≡ true → c ≤ 57
digit_small c is = grind (arith, nat_tests)

-- ten times as much for each digit
abbrev scaled : ℕ → List ℕ → ℕ
scaled p [] = p
scaled p (c ∷ cs) = scaled (10 * p) cs

below : (digits : List ℕ) (n p : ℕ) → n < p → list_all is_digit digits ≡ true → number_from n digits < scaled p digits
below [] n p small all = small
below (c ∷ cs) n p small all =
    let parts = and_parts (is_digit c) (list_all is_digit cs) all in
    let digit = digit_small c parts.0 in
    below cs (10 * n + (c - 48)) (10 * p) (omega arith) parts.1

at_most_eight : (digits : List ℕ) → length digits ≤ 8 → scaled 1 digits ≤ 100000000
at_most_eight [] few = omega arith
at_most_eight (a ∷ []) few = omega arith
at_most_eight (a ∷ b ∷ []) few = omega arith
at_most_eight (a ∷ b ∷ c ∷ []) few = omega arith
at_most_eight (a ∷ b ∷ c ∷ d ∷ []) few = omega arith
at_most_eight (a ∷ b ∷ c ∷ d ∷ e ∷ []) few = omega arith
at_most_eight (a ∷ b ∷ c ∷ d ∷ e ∷ f ∷ []) few = omega arith
at_most_eight (a ∷ b ∷ c ∷ d ∷ e ∷ f ∷ g ∷ []) few = omega arith
at_most_eight (a ∷ b ∷ c ∷ d ∷ e ∷ f ∷ g ∷ h ∷ []) few = omega arith
at_most_eight (a ∷ b ∷ c ∷ d ∷ e ∷ f ∷ g ∷ h ∷ i ∷ rest) few = absurd (omega arith)

pub few_small : (digits : List ℕ) → length digits ≤ 8 → list_all is_digit digits ≡ true → number_from 0 digits < 2 ^ 32
few_small digits few all =
    let less = below digits 0 1 (omega arith) all in
    let most = at_most_eight digits few in
    omega arith

few_by : (digits : List ℕ) (b : Bool) → list_all is_digit digits ≡ b → length digits ≤ 8 → number_below digits ≡ (if b then Some (number_from 0 digits) else None)
few_by digits true all few = let small = few_small digits few all in grind (arith, nat_tests)
few_by digits false all few = rw all refl

-- a number of a few digits is below 2^64
pub few_is : (digits : List ℕ) (most : ℕ) → most ≤ 8 → 1 ≤ length digits → length digits ≤ most → number_below digits ≡ few_digits most digits
few_is digits most top some few = grind (arith, nat_tests, few_by digits (list_all is_digit digits) refl (omega arith))
