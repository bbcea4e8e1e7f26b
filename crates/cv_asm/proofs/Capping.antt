-- What an operand says of its text, though sizes are kept up to the cap.
use Rattle.std.proofs.Common.{◌≡◌, ℕ, ◌^◌, ◌<◌, ◌⊎◌, inl, inr, ◌&&◌, Bool, true, false, nat_le, List, Option, Some, None, Result, Ok, Err, refl, sym, ap, ◌∙◌, arith}
use Rattle.std.proofs.lemmas.Bool.Decides.{nat_tests}
use Rattle.std.specs.Option.{ok_or, option_map}
use Rattle.cv_asm.specs.declared.fault.LineFault.{LineFault}
use Rattle.cv_asm.specs.declared.fault.LineFault.TheVariants.{BadOperand}
use Rattle.cv_asm.specs.declared.numbers.Number.{Number}
use Rattle.cv_asm.specs.declared.shapes.Kind.TheVariants as kind
use Rattle.cv_asm.specs.Capped.{capped, capped_number}
use Rattle.cv_asm.specs.Fits.{capped_target}
use Rattle.cv_asm.specs.Operands.{is_even, is_within, number, number_in, operand_in, register_in, target_in, value_where}
use Rattle.cv_asm.specs.Results.{and_then}

-- a size is within a bound, or its capped one is not either
size_where : (size bound : ℕ) → bound < 2 ^ 33 → (size ≡ capped size) ⊎ ((nat_le size bound ≡ false) × (nat_le (capped size) bound ≡ false))
size_where size bound small = at (nat_le size (2 ^ 33)) refl
  where
    at : (b : Bool) → nat_le size (2 ^ 33) ≡ b → (size ≡ capped size) ⊎ ((nat_le size bound ≡ false) × (nat_le (capped size) bound ≡ false))
    at true is = inl (grind (arith, nat_tests))
    at false is = inr (grind (arith, nat_tests), grind (arith, nat_tests))

within_bound : (even : Number → Bool) (negative : Bool) (k bound size : ℕ) → bound < 2 ^ 33
    → value_where (nat_le (capped size) bound && even (number negative (capped size))) k (number negative (capped size)) ≡ value_where (nat_le size bound && even (number negative size)) k (number negative size)
within_bound even negative k bound size small =
    elim (size_where size bound small) as (λ _. value_where (nat_le (capped size) bound && even (number negative (capped size))) k (number negative (capped size)) ≡ value_where (nat_le size bound && even (number negative size)) k (number negative size)) [
      | inl same ↦ sym (ap (λ s. value_where (nat_le s bound && even (number negative s)) k (number negative s)) same)
      | inr out ↦ ap (λ b. value_where (b && even (number negative (capped size))) k (number negative (capped size))) out.1 ∙ sym (ap (λ b. value_where (b && even (number negative size)) k (number negative size)) out.0)
    ]

capped_where : (even : Number → Bool) (low high k size : ℕ) (negative : Bool) → low < 2 ^ 31 → high < 2 ^ 32
    → value_where (is_within low high (capped_number (number negative size)) && even (capped_number (number negative size))) k (capped_number (number negative size))
    ≡ value_where (is_within low high (number negative size) && even (number negative size)) k (number negative size)
capped_where even low high k size true small_low small_high = within_bound even true k low size (omega arith)
capped_where even low high k size false small_low small_high = within_bound even false k high size (omega arith)

plain_where : (low high k : ℕ) (n : Number) → low < 2 ^ 31 → high < 2 ^ 32 → value_where (is_within low high (capped_number n)) k (capped_number n) ≡ value_where (is_within low high n) k n
plain_where low high k n small_low small_high =
    sym (and_true (is_within low high (capped_number n)) (capped_number n)) ∙ capped_where (λ _. true) low high k n.size n.negative small_low small_high ∙ and_true (is_within low high n) n
  where
    and_true : (b : Bool) (m : Number) → value_where (b && true) k m ≡ value_where b k m
    and_true true m = refl
    and_true false m = refl

pub number_read : (places : List ℕ → Option ℕ) (from k low high : ℕ) (text : List ℕ) (n : Number) → low < 2 ^ 31 → high < 2 ^ 32
    → Some n ≡ option_map capped_number (number_in text) → operand_in places from k (kind.Number low high) text ≡ value_where (is_within low high n) k n
unfolding operand_in
number_read places from k low high text n small_low small_high read = at (number_in text) read
  where
    at : (o : Option Number) → Some n ≡ option_map capped_number o → and_then (ok_or o (BadOperand k)) (λ m. value_where (is_within low high m) k m) ≡ value_where (is_within low high n) k n
    at None is = absurd (cc)
    at (Some m) is =
        let same : capped_number m ≡ n = cc in
        sym (plain_where low high k m small_low small_high) ∙ ap (λ (x : Number). value_where (is_within low high x) k x) same

pub number_refused : (places : List ℕ → Option ℕ) (from k low high : ℕ) (text : List ℕ)
    → None ≡ option_map capped_number (number_in text) → operand_in places from k (kind.Number low high) text ≡ Err (BadOperand k)
unfolding operand_in
number_refused places from k low high text read = at (number_in text) read
  where
    at : (o : Option Number) → None ≡ option_map capped_number o → and_then (ok_or o (BadOperand k)) (λ m. value_where (is_within low high m) k m) ≡ Err (BadOperand k)
    at None is = refl
    at (Some m) is = absurd (cc)

pub target_read : (places : List ℕ → Option ℕ) (from k low high : ℕ) (text : List ℕ) (n : Number) → low < 2 ^ 31 → high < 2 ^ 32
    → Ok n ≡ capped_target (target_in places from k text) → operand_in places from k (kind.Target low high) text ≡ value_where (is_within low high n && is_even n) k n
unfolding operand_in
target_read places from k low high text n small_low small_high read = at (target_in places from k text) read
  where
    at : (r : Result Number LineFault) → Ok n ≡ capped_target r → and_then r (λ m. value_where (is_within low high m && is_even m) k m) ≡ value_where (is_within low high n && is_even n) k n
    at (Err fault) is = absurd (cc)
    at (Ok m) is =
        let same : capped_number m ≡ n = cc in
        sym (capped_where is_even low high k m.size m.negative small_low small_high) ∙ ap (λ (x : Number). value_where (is_within low high x && is_even x) k x) same

pub target_refused : (places : List ℕ → Option ℕ) (from k low high : ℕ) (text : List ℕ) (fault : LineFault)
    → Err fault ≡ capped_target (target_in places from k text) → operand_in places from k (kind.Target low high) text ≡ Err fault
unfolding operand_in
target_refused places from k low high text fault read = at (target_in places from k text) read
  where
    at : (r : Result Number LineFault) → Err fault ≡ capped_target r → and_then r (λ m. value_where (is_within low high m && is_even m) k m) ≡ Err fault
    at (Err other) is = cc
    at (Ok m) is = absurd (cc)

pub register_read : (places : List ℕ → Option ℕ) (from k r : ℕ) (text : List ℕ) → Some r ≡ register_in text → operand_in places from k kind.Register text ≡ Ok r
unfolding operand_in
register_read places from k r text read = ap (λ o. ok_or o (BadOperand k)) (sym read)

pub register_refused : (places : List ℕ → Option ℕ) (from k : ℕ) (text : List ℕ) → None ≡ register_in text → operand_in places from k kind.Register text ≡ Err (BadOperand k)
unfolding operand_in
register_refused places from k text read = ap (λ o. ok_or o (BadOperand k)) (sym read)
