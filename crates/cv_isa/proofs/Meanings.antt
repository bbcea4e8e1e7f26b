-- The meaning of a word is an instruction with fields in range.
use Rattle.std.proofs.Common.{◌≡◌, ℕ, ◌+◌, ◌*◌, ◌%◌, ◌^◌, ◌<◌, Option, Some, None, refl, sym, subst, ◌∙◌, arith}
use Rattle.std.proofs.lemmas.Bool.Decides.{nat_tests}
use Rattle.cv_isa.specs.declared.operation.Op.{Op}
use Rattle.cv_isa.specs.declared.operation.Format.{Format}
use Rattle.cv_isa.specs.declared.operation.Format.TheVariants as format
use Rattle.cv_isa.specs.Bits.{bits, sign_extend}
use Rattle.cv_isa.specs.ByFields.{operation_at}
use Rattle.cv_isa.specs.DecodeTable.{instruction_at, meaning_of}
use Rattle.cv_isa.specs.Instruction.{Instruction, IsExtended, IsInstruction, IsOfFormat, format_of}
use Rattle.cv_isa.specs.Statements.{MeaningsAreInstructions}
use Rattle.cv_isa.proofs.Rows.{meaning_from, meaning_of-by_fields}

as_format : (o : Op) (f : Format) (i : Instruction) → format_of o ≡ f → IsOfFormat f i → IsOfFormat (format_of o) i
as_format o f i is fits = subst (λ (g : Format). IsOfFormat g i) (sym is) fits

extend_12 : (v : ℕ) → v < 2 ^ 12 → (sign_extend 12 v < 2 ^ 32) × IsExtended 12 (sign_extend 12 v)
extend_12 v small = (grind (arith, nat_tests), grind (arith, nat_tests))

extend_13 : (v : ℕ) → v < 2 ^ 13 → v % 2 ≡ 0 → (sign_extend 13 v < 2 ^ 32) × IsExtended 13 (sign_extend 13 v) × (sign_extend 13 v % 2 ≡ 0)
extend_13 v small even = (grind (arith, nat_tests), grind (arith, nat_tests), grind (arith, nat_tests))

extend_21 : (v : ℕ) → v < 2 ^ 21 → v % 2 ≡ 0 → (sign_extend 21 v < 2 ^ 32) × IsExtended 21 (sign_extend 21 v) × (sign_extend 21 v % 2 ≡ 0)
extend_21 v small even = (grind (arith, nat_tests), grind (arith, nat_tests), grind (arith, nat_tests))

store_small : (a b : ℕ) → a < 128 → b < 32 → a * 2 ^ 5 + b < 2 ^ 12
store_small a b first second = omega arith

branch_small : (a b c d : ℕ) → a < 2 → b < 2 → c < 64 → d < 16 → (a * 2 ^ 12 + b * 2 ^ 11 + c * 2 ^ 5 + d * 2 < 2 ^ 13) × ((a * 2 ^ 12 + b * 2 ^ 11 + c * 2 ^ 5 + d * 2) % 2 ≡ 0)
branch_small a b c d first second third fourth = (omega arith, omega arith)

jump_small : (a b c d : ℕ) → a < 2 → b < 256 → c < 2 → d < 1024 → (a * 2 ^ 20 + b * 2 ^ 12 + c * 2 ^ 11 + d * 2 < 2 ^ 21) × ((a * 2 ^ 20 + b * 2 ^ 12 + c * 2 ^ 11 + d * 2) % 2 ≡ 0)
jump_small a b c d first second third fourth = (omega arith, omega arith)

known_at : (f : Format) (o : Op) (w : ℕ) → w < 2 ^ 32 → format_of o ≡ f → IsInstruction (instruction_at f o w)
known_at format.Register o w small is = record { rd_in_range = omega arith; rs1_in_range = omega arith; rs2_in_range = omega arith; imm_in_range = omega arith; of_format = as_format o format.Register (instruction_at format.Register o w) is refl }
known_at format.Immediate o w small is =
    let imm = extend_12 (bits w 20 12) (omega arith) in
    record { rd_in_range = omega arith; rs1_in_range = omega arith; rs2_in_range = omega arith; imm_in_range = imm.0; of_format = as_format o format.Immediate (instruction_at format.Immediate o w) is (refl, imm.1) }
known_at format.Shift o w small is = record { rd_in_range = omega arith; rs1_in_range = omega arith; rs2_in_range = omega arith; imm_in_range = omega arith; of_format = as_format o format.Shift (instruction_at format.Shift o w) is (refl, omega arith) }
known_at format.Store o w small is =
    let imm = extend_12 (bits w 25 7 * 2 ^ 5 + bits w 7 5) (store_small (bits w 25 7) (bits w 7 5) (omega arith) (omega arith)) in
    record { rd_in_range = omega arith; rs1_in_range = omega arith; rs2_in_range = omega arith; imm_in_range = imm.0; of_format = as_format o format.Store (instruction_at format.Store o w) is (refl, imm.1) }
known_at format.Branch o w small is =
    let small_even = branch_small (bits w 31 1) (bits w 7 1) (bits w 25 6) (bits w 8 4) (omega arith) (omega arith) (omega arith) (omega arith) in
    let imm = extend_13 (bits w 31 1 * 2 ^ 12 + bits w 7 1 * 2 ^ 11 + bits w 25 6 * 2 ^ 5 + bits w 8 4 * 2) small_even.0 small_even.1 in
    record { rd_in_range = omega arith; rs1_in_range = omega arith; rs2_in_range = omega arith; imm_in_range = imm.0; of_format = as_format o format.Branch (instruction_at format.Branch o w) is (refl, imm.1, imm.2) }
known_at format.Upper o w small is = record { rd_in_range = omega arith; rs1_in_range = omega arith; rs2_in_range = omega arith; imm_in_range = omega arith; of_format = as_format o format.Upper (instruction_at format.Upper o w) is (refl, refl, omega arith) }
known_at format.Jump o w small is =
    let small_even = jump_small (bits w 31 1) (bits w 12 8) (bits w 20 1) (bits w 21 10) (omega arith) (omega arith) (omega arith) (omega arith) in
    let imm = extend_21 (bits w 31 1 * 2 ^ 20 + bits w 12 8 * 2 ^ 12 + bits w 20 1 * 2 ^ 11 + bits w 21 10 * 2) small_even.0 small_even.1 in
    record { rd_in_range = omega arith; rs1_in_range = omega arith; rs2_in_range = omega arith; imm_in_range = imm.0; of_format = as_format o format.Jump (instruction_at format.Jump o w) is (refl, refl, imm.1, imm.2) }
known_at format.Environment o w small is = record { rd_in_range = omega arith; rs1_in_range = omega arith; rs2_in_range = omega arith; imm_in_range = omega arith; of_format = as_format o format.Environment (instruction_at format.Environment o w) is (refl, refl, refl, refl) }

known_from : (w : ℕ) → w < 2 ^ 32 → (i : Instruction) (o : Option Op) → meaning_from w o ≡ Some i → IsInstruction i
known_from w small i None is = absurd (cc)
known_from w small i (Some o) is =
    let same : instruction_at (format_of o) o w ≡ i = cc in
    subst IsInstruction same (known_at (format_of o) o w small refl)

-- as the law says it
pub meaning_known : MeaningsAreInstructions
meaning_known i w small means = known_from w small i (operation_at (bits w 0 7) (bits w 12 3) (bits w 25 7) w) (sym (meaning_of-by_fields w small) ∙ means)
