-- The decode table read by opcode, funct3 and funct7 instead of by mask: what private functions
-- promise to `decode` and `encode`. Proofs show that both readings agree, so no reader need trust this one.
use Rattle.std.specs.Prelude.{ℕ, ◌/◌, ◌%◌, ◌^◌, Bool, List, [], ◌∷◌, Option, Some, None, ◌==◌, ◌&&◌, if◌then◌else◌}
use Rattle.cv_isa.specs.declared.operation.Op.{Op}
use Rattle.cv_isa.specs.DecodeTable.{Row, rows}

-- the word that has these fields fits the row
abbrev pub agrees : ℕ → ℕ → ℕ → ℕ → Row → Bool
agrees opcode funct3 funct7 word r =
    if r.mask == 0x7f then opcode == r.code
    else if r.mask == 0x707f then (opcode == r.code % 2 ^ 7) && (funct3 == r.code / 2 ^ 12)
    else if r.mask == 0xfe00707f then (opcode == r.code % 2 ^ 7) && (funct3 == r.code / 2 ^ 12 % 2 ^ 3) && (funct7 == r.code / 2 ^ 25)
    else (opcode == r.code % 2 ^ 7) && (word == r.code)

-- the operation of the first row that passes the test
abbrev pub first_of : (Row → Bool) → List Row → Option Op
first_of test [] = None
first_of test (r ∷ rs) = if test r then Some r.op else first_of test rs

abbrev pub operation_at : ℕ → ℕ → ℕ → ℕ → Option Op
operation_at opcode funct3 funct7 word = first_of (agrees opcode funct3 funct7 word) rows
