-- Decimal numbers: the reading undoes the text, digit by digit too.
use Rattle.std.proofs.Common.{◌≡◌, ℕ, ◌+◌, ◌-◌, ◌*◌, ◌^◌, ◌<◌, ◌≤◌, ◌==◌, ◌&&◌, Bool, true, false, not, List, [], ◌∷◌, ◌∙◌, Option, Some, None, length, get_or, refl, sym, ap, arith, ltb-true, lt-ltb, eq-eqb, suc, inl, inr}
use Rattle.std.specs.Prelude.{nat_lt, unwrap_or}
use Rattle.std.specs.Char.{digit_value, is_ascii_digit}
use Rattle.std.specs.Fmt.{decimal}
use Rattle.std.specs.Str.{all_ascii_digits}
use Rattle.std.specs.Str.Parse.{digits_value, digits_value_after}
use Rattle.std.proofs.lemmas.Bool.{and_parts, and_from, both_ways, cases_lt, not-true, ne_eqb}
use Rattle.std.proofs.lemmas.Bool.Decides.{nat_tests}
use Rattle.std.proofs.lemmas.Fmt.{decimal-digits_value, decimal_digit, decimal_nonempty, digits_decimal, digits_value-decimal, first_decimal}
use Rattle.std.proofs.lemmas.Str.Parse.{IsNumeralModel, numerals_by_value, tells_all_ascii_digits}
use Rattle.cv_journal.specs.LineOf.{IsWord}
use Rattle.cv_journal.specs.Reading.{is_well_led, number_in, only_where}
use Rattle.cv_journal.specs.Steps.{digits_after}
use Rattle.cv_journal.proofs.CutLaw.{lacks}
use Rattle.cv_journal.proofs.ReadBack.{Reads, where_back}

own : IsNumeralModel (λ ds. all_ascii_digits ds ≡ true) (digits_value 10)
own = numerals_by_value _ tells_all_ascii_digits

-- ---- the law of numbers

first_is_zero : (s : List ℕ) → is_well_led s ≡ true → get_or s 0 0 ≡ 48 → length s ≡ 1
first_is_zero [] led zero = absurd (cc)
first_is_zero (c ∷ []) led zero = refl
first_is_zero (c ∷ d ∷ rest) led zero = absurd (both_ways (c == 48) (not-true _ led) (eq-eqb c 48 zero))

some_digit : (s : List ℕ) → is_well_led s ≡ true → 0 < length s
some_digit [] led = absurd (cc)
some_digit (c ∷ cs) led = omega arith

well_led_from : (s : List ℕ) → 0 < length s → (get_or s 0 0 ≡ 48 → length s ≡ 1) → is_well_led s ≡ true
well_led_from [] some lead = absurd (omega arith)
well_led_from (c ∷ []) some lead = refl
well_led_from (c ∷ d ∷ rest) some lead = ap not (ne_eqb c 48 (λ e. let l : suc (suc (length rest)) ≡ 1 = lead e in omega arith))

lead_of : (n : ℕ) → IsWord n → get_or (decimal n) 0 0 ≡ 48 → length (decimal n) ≡ 1
lead_of n small zero =
    elim (cases_lt 0 n) [
      | inl some ↦ let above : 48 < get_or (decimal n) 0 0 = first_decimal n some (omega arith) in absurd (omega arith)
      | inr none ↦ ap length (decimal_digit n (omega arith))
    ]

number_back : (s : List ℕ) (n : ℕ) → number_in s ≡ Some n → IsWord n × (s ≡ decimal n)
unfolding number_in
number_back s n e =
    let got = where_back (is_well_led s && (all_ascii_digits s && nat_lt (digits_value 10 s) (2 ^ 32))) (Some (digits_value 10 s)) n e in
    let parts : (is_well_led s ≡ true) × ((all_ascii_digits s && nat_lt (digits_value 10 s) (2 ^ 32)) ≡ true) = and_parts _ _ got.0 in
    let tests : (all_ascii_digits s ≡ true) × (nat_lt (digits_value 10 s) (2 ^ 32) ≡ true) = and_parts _ _ parts.1 in
    let small : digits_value 10 s < 2 ^ 32 = ltb-true _ _ tests.1 in
    let is : digits_value 10 s ≡ n = ap (λ o. unwrap_or o n) got.1 in
    let spelled : decimal (digits_value 10 s) ≡ s = decimal-digits_value own s tests.0 (some_digit s parts.0) (first_is_zero s parts.0) (omega arith) in
    (omega arith, sym spelled ∙ ap decimal is)

number_forth : (n : ℕ) → IsWord n → number_in (decimal n) ≡ Some n
unfolding number_in
number_forth n small =
    let some : 0 < length (decimal n) = decimal_nonempty n (omega arith) in
    let all : all_ascii_digits (decimal n) ≡ true = digits_decimal own n (omega arith) in
    let value : digits_value 10 (decimal n) ≡ n = digits_value-decimal own n (omega arith) in
    let test : (is_well_led (decimal n) && (all_ascii_digits (decimal n) && nat_lt (digits_value 10 (decimal n)) (2 ^ 32))) ≡ true
    = and_from _ _ (well_led_from (decimal n) some (lead_of n small)) (and_from _ _ all (lt-ltb _ _ (omega arith))) in
    ap (λ b. only_where b (Some (digits_value 10 (decimal n)))) test ∙ ap (λ v. Some v) value

pub number_reads : Reads IsWord decimal number_in
number_reads = record { back = number_back; forth = number_forth }

digits_lack : (mark : ℕ) (s : List ℕ) → is_ascii_digit mark ≡ false → all_ascii_digits s ≡ true → lacks mark s ≡ true
digits_lack mark [] other all = refl
digits_lack mark (c ∷ cs) other all =
    let parts : (is_ascii_digit c ≡ true) × (all_ascii_digits cs ≡ true) = and_parts _ _ all in
    and_from _ _ (ap not (ne_eqb c mark (λ e. both_ways (is_ascii_digit mark) other (ap is_ascii_digit (sym e) ∙ parts.0)))) (digits_lack mark cs other parts.1)

pub number_lacks : (mark : ℕ) → is_ascii_digit mark ≡ false → (n : ℕ) → IsWord n → lacks mark (decimal n) ≡ true
number_lacks mark other n small = digits_lack mark (decimal n) other (digits_decimal own n (omega arith))

-- ---- digit by digit

digit_is : (c : ℕ) → is_ascii_digit c ≡ true → digit_value c ≡ c - 48
digit_is c h = grind (arith, nat_tests)

grows : (m : ℕ) (s : List ℕ) → m ≤ digits_value_after 10 m s
grows m [] = omega arith
grows m (c ∷ cs) = let more : m * 10 + digit_value c ≤ digits_value_after 10 (m * 10 + digit_value c) cs = grows (m * 10 + digit_value c) cs in omega arith

digits_forth : (m : ℕ) (s : List ℕ) → all_ascii_digits s ≡ true → digits_value_after 10 m s < 2 ^ 32 → digits_after m s ≡ Some (digits_value_after 10 m s)
digits_forth m [] all small = refl
digits_forth m (c ∷ cs) all small =
    let parts : (is_ascii_digit c ≡ true) × (all_ascii_digits cs ≡ true) = and_parts _ _ all in
    let same : m * 10 + digit_value c ≡ m * 10 + (c - 48) = ap (λ d. m * 10 + d) (digit_is c parts.0) in
    let value : digits_value_after 10 (m * 10 + digit_value c) cs ≡ digits_value_after 10 (m * 10 + (c - 48)) cs = ap (λ v. digits_value_after 10 v cs) same in
    let more : m * 10 + (c - 48) ≤ digits_value_after 10 (m * 10 + (c - 48)) cs = grows (m * 10 + (c - 48)) cs in
    let test : (is_ascii_digit c && nat_lt (m * 10 + (c - 48)) (2 ^ 32)) ≡ true = and_from _ _ parts.0 (lt-ltb _ _ (omega arith)) in
    ap (λ b. only_where b (digits_after (m * 10 + (c - 48)) cs)) test
    ∙ digits_forth (m * 10 + (c - 48)) cs parts.1 (omega arith)
    ∙ ap (λ v. Some v) (sym value)

digits_back : (m : ℕ) (s : List ℕ) (n : ℕ) → m < 2 ^ 32 → digits_after m s ≡ Some n → (all_ascii_digits s ≡ true) × (digits_value_after 10 m s < 2 ^ 32)
digits_back m [] n small e = (refl, small)
digits_back m (c ∷ cs) n small e =
    let got = where_back (is_ascii_digit c && nat_lt (m * 10 + (c - 48)) (2 ^ 32)) (digits_after (m * 10 + (c - 48)) cs) n e in
    let parts : (is_ascii_digit c ≡ true) × (nat_lt (m * 10 + (c - 48)) (2 ^ 32) ≡ true) = and_parts _ _ got.0 in
    let same : m * 10 + digit_value c ≡ m * 10 + (c - 48) = ap (λ d. m * 10 + d) (digit_is c parts.0) in
    let value : digits_value_after 10 (m * 10 + digit_value c) cs ≡ digits_value_after 10 (m * 10 + (c - 48)) cs = ap (λ v. digits_value_after 10 v cs) same in
    let rest = digits_back (m * 10 + (c - 48)) cs n (ltb-true _ _ parts.1) got.1 in
    let below : digits_value_after 10 (m * 10 + (c - 48)) cs < 2 ^ 32 = rest.1 in
    (and_from _ _ parts.0 rest.0, omega arith)

number_cases : (led test : Bool) (v : ℕ) (after : Option ℕ) → (test ≡ true → after ≡ Some v) → ((n : ℕ) → after ≡ Some n → test ≡ true)
    → only_where (led && test) (Some v) ≡ only_where led after
number_cases false test v after forth back = refl
number_cases true true v after forth back = sym (forth refl)
number_cases true false v None forth back = refl
number_cases true false v (Some n) forth back = absurd (both_ways false refl (back n refl))

pub number_is : (s : List ℕ) → number_in s ≡ only_where (is_well_led s) (digits_after 0 s)
unfolding number_in
number_is s =
    number_cases (is_well_led s) (all_ascii_digits s && nat_lt (digits_value 10 s) (2 ^ 32)) (digits_value 10 s) (digits_after 0 s)
    (λ h. let parts : (all_ascii_digits s ≡ true) × (nat_lt (digits_value 10 s) (2 ^ 32) ≡ true) = and_parts _ _ h in digits_forth 0 s parts.0 (ltb-true _ _ parts.1))
    (λ n e. let got = digits_back 0 s n (omega arith) e in and_from _ _ got.0 (lt-ltb _ _ got.1))
