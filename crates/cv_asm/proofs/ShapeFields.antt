-- The fields that operands give are in range, whatever the shape.
use Rattle.std.proofs.Common.{◌≡◌, ◌≢◌, ℕ, ◌*◌, ◌%◌, ◌^◌, ◌<◌, inl, inr, List, [], ◌∷◌, length, Option, Result, Ok, Err, refl, sym, ap, subst, ◌∙◌, arith}
use Rattle.std.proofs.lemmas.Bool.Decides.{nat_tests}
use Rattle.cv_isa.specs.declared.operation.Op.{Op}
use Rattle.cv_isa.specs.declared.operation.Op.TheVariants as op
use Rattle.cv_isa.specs.declared.operation.Format.{Format}
use Rattle.cv_isa.specs.declared.operation.Format.TheVariants as format
use Rattle.cv_isa.specs.DecodeTable.{with_fields}
use Rattle.cv_isa.specs.Instruction.{Instruction, IsExtended, IsInstruction, IsOfFormat, format_of}
use Rattle.cv_isa.specs.Names.{word_of}
use Rattle.cv_asm.specs.declared.fault.LineFault.{LineFault}
use Rattle.std.specs.Borrow.{Bor}
use Rattle.cv_asm.specs.Labels.{texts_of}
use Rattle.cv_asm.proofs.Counting.{none_read, other_of}
use Rattle.cv_asm.specs.declared.fault.LineFault.TheVariants.{OperandCount}
use Rattle.cv_asm.specs.declared.shapes.Kind.{Kind}
use Rattle.cv_asm.specs.declared.shapes.Shape.{Shape}
use Rattle.cv_asm.specs.declared.shapes.Shape.TheVariants as shape
use Rattle.cv_asm.specs.Fits.{AreOfKinds, IsFrom}
use Rattle.cv_asm.specs.Operands.{operands_in}
use Rattle.cv_asm.specs.Shapes.{instruction_with, kinds_of, shape_of}
use Rattle.cv_asm.specs.Source.{known_word}
use Rattle.cv_asm.specs.Results.{and_then}

-- the format of a shape's operations
abbrev pub format_for : Shape → Format
format_for shape.Registers = format.Register
format_for shape.WithNumber = format.Immediate
format_for shape.ByAmount = format.Shift
format_for shape.FromAddress = format.Immediate
format_for shape.ToAddress = format.Store
format_for shape.Branch = format.Branch
format_for shape.UpperBits = format.Upper
format_for shape.Jump = format.Jump
format_for shape.Fence = format.Immediate
format_for shape.Alone = format.Environment

pub shape_format : (o : Op) → format_of o ≡ format_for (shape_of o)
shape_format op.Lui = refl
shape_format _ = refl

extended_12 : (v : ℕ) → IsFrom 2048 2047 v → (v < 2 ^ 32) × IsExtended 12 v
extended_12 v (inl low) = (omega arith, grind (arith, nat_tests))
extended_12 v (inr high) = (omega arith, grind (arith, nat_tests))

extended_13 : (v : ℕ) → IsFrom 4096 4094 v → v % 2 ≡ 0 → (v < 2 ^ 32) × IsExtended 13 v
extended_13 v (inl low) even = (omega arith, grind (arith, nat_tests))
extended_13 v (inr high) even = (omega arith, grind (arith, nat_tests))

extended_21 : (v : ℕ) → IsFrom 1048576 1048574 v → v % 2 ≡ 0 → (v < 2 ^ 32) × IsExtended 21 v
extended_21 v (inl low) even = (omega arith, grind (arith, nat_tests))
extended_21 v (inr high) even = (omega arith, grind (arith, nat_tests))

amount : (v : ℕ) → IsFrom 0 31 v → v < 32
amount v (inl low) = omega arith
amount v (inr high) = absurd (omega arith)

upper : (v : ℕ) → IsFrom 0 1048575 v → v < 2 ^ 20
upper v (inl low) = omega arith
upper v (inr high) = absurd (omega arith)

pub as_format : (o : Op) (f : Format) (i : Instruction) → format_of o ≡ f → IsOfFormat f i → IsOfFormat (format_of o) i
as_format o f i is fits = subst (λ (g : Format). IsOfFormat g i) (sym is) fits

pub three_fit : (sh : Shape) (o : Op) (a b c : ℕ) → format_of o ≡ format_for sh → length (kinds_of sh) ≡ 3 → AreOfKinds (kinds_of sh) (a ∷ b ∷ c ∷ []) → IsInstruction (instruction_with sh o (a ∷ b ∷ c ∷ []))
three_fit shape.Registers o a b c is three fits = record { rd_in_range = fits.0; rs1_in_range = fits.1.0; rs2_in_range = fits.1.1.0; imm_in_range = omega arith; of_format = as_format o format.Register (with_fields o a b c 0) is refl }
three_fit shape.WithNumber o a b c is three fits =
    let imm = extended_12 c fits.1.1.0 in
    record { rd_in_range = fits.0; rs1_in_range = fits.1.0; rs2_in_range = omega arith; imm_in_range = imm.0; of_format = as_format o format.Immediate (with_fields o a b 0 c) is (refl, imm.1) }
three_fit shape.ByAmount o a b c is three fits =
    let imm : c < 32 = amount c fits.1.1.0 in
    record { rd_in_range = fits.0; rs1_in_range = fits.1.0; rs2_in_range = omega arith; imm_in_range = omega arith; of_format = as_format o format.Shift (with_fields o a b 0 c) is (refl, imm) }
three_fit shape.FromAddress o a b c is three fits =
    let imm = extended_12 b fits.1.0 in
    record { rd_in_range = fits.0; rs1_in_range = fits.1.1.0; rs2_in_range = omega arith; imm_in_range = imm.0; of_format = as_format o format.Immediate (with_fields o a c 0 b) is (refl, imm.1) }
three_fit shape.ToAddress o a b c is three fits =
    let imm = extended_12 b fits.1.0 in
    record { rd_in_range = omega arith; rs1_in_range = fits.1.1.0; rs2_in_range = fits.0; imm_in_range = imm.0; of_format = as_format o format.Store (with_fields o 0 c a b) is (refl, imm.1) }
three_fit shape.Branch o a b c is three fits =
    let imm = extended_13 c fits.1.1.0.0 fits.1.1.0.1 in
    record { rd_in_range = omega arith; rs1_in_range = fits.0; rs2_in_range = fits.1.0; imm_in_range = imm.0; of_format = as_format o format.Branch (with_fields o 0 a b c) is (refl, imm.1, fits.1.1.0.1) }
three_fit shape.UpperBits o a b c is three fits = absurd (omega (arith, three))
three_fit shape.Jump o a b c is three fits = absurd (omega (arith, three))
three_fit shape.Fence o a b c is three fits = absurd (omega (arith, three))
three_fit shape.Alone o a b c is three fits = absurd (omega (arith, three))

pub two_fit : (sh : Shape) (o : Op) (a b : ℕ) → format_of o ≡ format_for sh → length (kinds_of sh) ≡ 2 → AreOfKinds (kinds_of sh) (a ∷ b ∷ []) → IsInstruction (instruction_with sh o (a ∷ b ∷ []))
two_fit shape.UpperBits o a b is two fits =
    let imm : b < 2 ^ 20 = upper b fits.1.0 in
    record { rd_in_range = fits.0; rs1_in_range = omega arith; rs2_in_range = omega arith; imm_in_range = omega arith; of_format = as_format o format.Upper (with_fields o a 0 0 (b * 2 ^ 12)) is (refl, refl, omega arith) }
two_fit shape.Jump o a b is two fits =
    let imm = extended_21 b fits.1.0.0 fits.1.0.1 in
    record { rd_in_range = fits.0; rs1_in_range = omega arith; rs2_in_range = omega arith; imm_in_range = imm.0; of_format = as_format o format.Jump (with_fields o a 0 0 b) is (refl, refl, imm.1, fits.1.0.1) }
two_fit shape.Registers o a b is two fits = absurd (omega (arith, two))
two_fit shape.WithNumber o a b is two fits = absurd (omega (arith, two))
two_fit shape.ByAmount o a b is two fits = absurd (omega (arith, two))
two_fit shape.FromAddress o a b is two fits = absurd (omega (arith, two))
two_fit shape.ToAddress o a b is two fits = absurd (omega (arith, two))
two_fit shape.Branch o a b is two fits = absurd (omega (arith, two))
two_fit shape.Fence o a b is two fits = absurd (omega (arith, two))
two_fit shape.Alone o a b is two fits = absurd (omega (arith, two))

pub none_fit : (sh : Shape) (o : Op) → format_of o ≡ format_for sh → length (kinds_of sh) ≡ 0 → IsInstruction (instruction_with sh o [])
none_fit shape.Fence o is none =
    record { rd_in_range = omega arith; rs1_in_range = omega arith; rs2_in_range = omega arith; imm_in_range = omega arith; of_format = as_format o format.Immediate (with_fields o 0 0 0 255) is (refl, refl) }
none_fit shape.Alone o is none =
    record { rd_in_range = omega arith; rs1_in_range = omega arith; rs2_in_range = omega arith; imm_in_range = omega arith; of_format = as_format o format.Environment (with_fields o 0 0 0 0) is (refl, refl, refl, refl) }
none_fit shape.Registers o is none = absurd (omega (arith, none))
none_fit shape.WithNumber o is none = absurd (omega (arith, none))
none_fit shape.ByAmount o is none = absurd (omega (arith, none))
none_fit shape.FromAddress o is none = absurd (omega (arith, none))
none_fit shape.ToAddress o is none = absurd (omega (arith, none))
none_fit shape.Branch o is none = absurd (omega (arith, none))
none_fit shape.UpperBits o is none = absurd (omega (arith, none))
none_fit shape.Jump o is none = absurd (omega (arith, none))

-- the word of an instruction whose operands were read, and the fault of one whose operands are refused
pub known_ok : (places : List ℕ → Option ℕ) (place : ℕ) (o : Op) (sh : Shape) (ss : List (List ℕ)) (vs : List ℕ) → shape_of o ≡ sh
    → operands_in places place (kinds_of sh) ss ≡ Ok vs → known_word places place ss o ≡ Ok (word_of (instruction_with sh o vs))
unfolding known_word
known_ok places place o sh ss vs is read =
    ap (λ (s : Shape). and_then (operands_in places place (kinds_of s) ss) (λ values. Ok (word_of (instruction_with s o values)))) is
    ∙ ap (λ (r : Result (List ℕ) LineFault). and_then r (λ values. Ok (word_of (instruction_with sh o values)))) read

pub known_refused : (places : List ℕ → Option ℕ) (place : ℕ) (o : Op) (sh : Shape) (ss : List (List ℕ)) (f : LineFault) → shape_of o ≡ sh
    → operands_in places place (kinds_of sh) ss ≡ Err f → known_word places place ss o ≡ Err f
unfolding known_word
known_refused places place o sh ss f is read =
    ap (λ (s : Shape). and_then (operands_in places place (kinds_of s) ss) (λ values. Ok (word_of (instruction_with s o values)))) is
    ∙ ap (λ (r : Result (List ℕ) LineFault). and_then r (λ values. Ok (word_of (instruction_with sh o values)))) read

empty_texts : (operands : List (Bor (List ℕ))) → length operands ≡ 0 → texts_of operands ≡ []
empty_texts [] none = refl
empty_texts (p ∷ ps) none = absurd (omega arith)

no_kinds : (sh : Shape) → length (kinds_of sh) ≡ 0 → kinds_of sh ≡ []
no_kinds sh none = at (kinds_of sh) none
  where
    at : (ks : List Kind) → length ks ≡ 0 → ks ≡ []
    at [] is = refl
    at (k ∷ ks) is = absurd (omega arith)

pub none_ok : (places : List ℕ → Option ℕ) (place : ℕ) (o : Op) (sh : Shape) (operands : List (Bor (List ℕ))) → shape_of o ≡ sh → length (kinds_of sh) ≡ 0 → length operands ≡ 0
    → known_word places place (texts_of operands) o ≡ Ok (word_of (instruction_with sh o []))
none_ok places place o sh operands is none empty =
    known_ok places place o sh (texts_of operands) [] is
    (ap (λ (ks : List Kind). operands_in places place ks (texts_of operands)) (no_kinds sh none) ∙ ap (λ (ss : List (List ℕ)). operands_in places place [] ss) (empty_texts operands empty) ∙ none_read places place)

pub count_refused : (places : List ℕ → Option ℕ) (place : ℕ) (o : Op) (sh : Shape) (operands : List (Bor (List ℕ))) → shape_of o ≡ sh → length operands ≢ length (kinds_of sh)
    → known_word places place (texts_of operands) o ≡ Err OperandCount
count_refused places place o sh operands is differ = known_refused places place o sh (texts_of operands) OperandCount is (other_of places place (kinds_of sh) operands differ)
