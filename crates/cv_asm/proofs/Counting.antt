-- Operands one after another, and how many of them there are.
use Rattle.std.proofs.Common.{◌≡◌, ◌≢◌, ℕ, Bool, true, false, cond, ◌==◌, List, [], ◌∷◌, length, Option, Result, Ok, Err, refl, sym, ap, ◌∙◌, arith}
use Rattle.std.proofs.lemmas.Bool.Decides.{nat_tests}
use Rattle.std.proofs.lemmas.List.{length-map}
use Rattle.std.specs.Borrow.{Bor}
use Rattle.cv_asm.specs.Labels.{texts_of}
use Rattle.cv_asm.specs.declared.fault.LineFault.{LineFault}
use Rattle.cv_asm.specs.declared.fault.LineFault.TheVariants.{OperandCount}
use Rattle.cv_asm.specs.declared.shapes.Kind.{Kind}
use Rattle.cv_asm.specs.declared.shapes.Kind.TheVariants as kind
use Rattle.cv_asm.specs.Operands.{operand_in, operands_from, operands_in}
use Rattle.cv_asm.specs.Results.{and_then}
use Rattle.cv_asm.specs.Source.{data_word, first_value}

three_read : (places : List ℕ → Option ℕ) (place : ℕ) (a b c : Kind) (x y z : List ℕ) → operands_in places place (a ∷ b ∷ c ∷ []) (x ∷ y ∷ z ∷ [])
    ≡ and_then (operand_in places place 1 a x) (λ u. and_then (and_then (operand_in places place 2 b y) (λ v. and_then (and_then (operand_in places place 3 c z) (λ w. Ok (w ∷ []))) (λ ws. Ok (v ∷ ws)))) (λ vs. Ok (u ∷ vs)))
unfolding operands_in
three_read places place a b c x y z = refl

pub three_ok : (places : List ℕ → Option ℕ) (place : ℕ) (a b c : Kind) (x y z : List ℕ) (u v w : ℕ)
    → Ok u ≡ operand_in places place 1 a x → Ok v ≡ operand_in places place 2 b y → Ok w ≡ operand_in places place 3 c z
    → operands_in places place (a ∷ b ∷ c ∷ []) (x ∷ y ∷ z ∷ []) ≡ Ok (u ∷ v ∷ w ∷ [])
three_ok places place a b c x y z u v w first second third = three_read places place a b c x y z ∙ rw (← first, ← second, ← third) refl

pub three_first : (places : List ℕ → Option ℕ) (place : ℕ) (a b c : Kind) (x y z : List ℕ) (f : LineFault)
    → Err f ≡ operand_in places place 1 a x → operands_in places place (a ∷ b ∷ c ∷ []) (x ∷ y ∷ z ∷ []) ≡ Err f
three_first places place a b c x y z f first = three_read places place a b c x y z ∙ rw (← first) refl

pub three_second : (places : List ℕ → Option ℕ) (place : ℕ) (a b c : Kind) (x y z : List ℕ) (u : ℕ) (f : LineFault)
    → Ok u ≡ operand_in places place 1 a x → Err f ≡ operand_in places place 2 b y → operands_in places place (a ∷ b ∷ c ∷ []) (x ∷ y ∷ z ∷ []) ≡ Err f
three_second places place a b c x y z u f first second = three_read places place a b c x y z ∙ rw (← first, ← second) refl

pub three_third : (places : List ℕ → Option ℕ) (place : ℕ) (a b c : Kind) (x y z : List ℕ) (u v : ℕ) (f : LineFault)
    → Ok u ≡ operand_in places place 1 a x → Ok v ≡ operand_in places place 2 b y → Err f ≡ operand_in places place 3 c z
    → operands_in places place (a ∷ b ∷ c ∷ []) (x ∷ y ∷ z ∷ []) ≡ Err f
three_third places place a b c x y z u v f first second third = three_read places place a b c x y z ∙ rw (← first, ← second, ← third) refl

two_read : (places : List ℕ → Option ℕ) (place : ℕ) (a b : Kind) (x y : List ℕ) → operands_in places place (a ∷ b ∷ []) (x ∷ y ∷ [])
    ≡ and_then (operand_in places place 1 a x) (λ u. and_then (and_then (operand_in places place 2 b y) (λ v. Ok (v ∷ []))) (λ vs. Ok (u ∷ vs)))
unfolding operands_in
two_read places place a b x y = refl

pub two_ok : (places : List ℕ → Option ℕ) (place : ℕ) (a b : Kind) (x y : List ℕ) (u v : ℕ)
    → Ok u ≡ operand_in places place 1 a x → Ok v ≡ operand_in places place 2 b y → operands_in places place (a ∷ b ∷ []) (x ∷ y ∷ []) ≡ Ok (u ∷ v ∷ [])
two_ok places place a b x y u v first second = two_read places place a b x y ∙ rw (← first, ← second) refl

pub two_first : (places : List ℕ → Option ℕ) (place : ℕ) (a b : Kind) (x y : List ℕ) (f : LineFault)
    → Err f ≡ operand_in places place 1 a x → operands_in places place (a ∷ b ∷ []) (x ∷ y ∷ []) ≡ Err f
two_first places place a b x y f first = two_read places place a b x y ∙ rw (← first) refl

pub two_second : (places : List ℕ → Option ℕ) (place : ℕ) (a b : Kind) (x y : List ℕ) (u : ℕ) (f : LineFault)
    → Ok u ≡ operand_in places place 1 a x → Err f ≡ operand_in places place 2 b y → operands_in places place (a ∷ b ∷ []) (x ∷ y ∷ []) ≡ Err f
two_second places place a b x y u f first second = two_read places place a b x y ∙ rw (← first, ← second) refl

one_read : (places : List ℕ → Option ℕ) (place : ℕ) (a : Kind) (x : List ℕ) → operands_in places place (a ∷ []) (x ∷ []) ≡ and_then (operand_in places place 1 a x) (λ u. Ok (u ∷ []))
unfolding operands_in
one_read places place a x = refl

pub none_read : (places : List ℕ → Option ℕ) (place : ℕ) → operands_in places place [] [] ≡ Ok []
unfolding operands_in
none_read places place = refl

count_by_test : (places : List ℕ → Option ℕ) (place : ℕ) (kinds : List Kind) (ss : List (List ℕ)) (b : Bool) → (length ss == length kinds) ≡ b → length ss ≢ length kinds → cond b (operands_from places place 1 kinds ss) (Err OperandCount) ≡ Err OperandCount
count_by_test places place kinds ss true is differ = absurd (grind (arith, nat_tests))
count_by_test places place kinds ss false is differ = refl

pub other_count : (places : List ℕ → Option ℕ) (place : ℕ) (kinds : List Kind) (ss : List (List ℕ)) → length ss ≢ length kinds → operands_in places place kinds ss ≡ Err OperandCount
unfolding operands_in
other_count places place kinds ss differ = count_by_test places place kinds ss (length ss == length kinds) refl differ

same_long : (operands : List (Bor (List ℕ))) → length (texts_of operands) ≡ length operands
same_long operands = simp length-map

pub other_of : (places : List ℕ → Option ℕ) (place : ℕ) (kinds : List Kind) (operands : List (Bor (List ℕ))) → length operands ≢ length kinds → operands_in places place kinds (texts_of operands) ≡ Err OperandCount
other_of places place kinds operands differ = other_count places place kinds (texts_of operands) (λ same. differ (sym (same_long operands) ∙ same))

pub data_ok : (places : List ℕ → Option ℕ) (place : ℕ) (x : List ℕ) (u : ℕ) → Ok u ≡ operand_in places place 1 (kind.Number 0 4294967295) x → data_word places place (x ∷ []) ≡ Ok u
unfolding data_word
data_ok places place x u first = ap (λ (r : Result (List ℕ) LineFault). and_then r (λ values. Ok (first_value values))) (one_read places place (kind.Number 0 4294967295) x) ∙ rw (← first) refl

pub data_refused : (places : List ℕ → Option ℕ) (place : ℕ) (x : List ℕ) (f : LineFault) → Err f ≡ operand_in places place 1 (kind.Number 0 4294967295) x → data_word places place (x ∷ []) ≡ Err f
unfolding data_word
data_refused places place x f first = ap (λ (r : Result (List ℕ) LineFault). and_then r (λ values. Ok (first_value values))) (one_read places place (kind.Number 0 4294967295) x) ∙ rw (← first) refl

pub data_count : (places : List ℕ → Option ℕ) (place : ℕ) (operands : List (Bor (List ℕ))) → length operands ≢ 1 → data_word places place (texts_of operands) ≡ Err OperandCount
unfolding data_word
data_count places place operands differ = ap (λ (r : Result (List ℕ) LineFault). and_then r (λ values. Ok (first_value values))) (other_of places place (kind.Number 0 4294967295 ∷ []) operands differ)
