-- What the integer instructions compute of two operands.
-- RISC-V Unprivileged ISA, 2.4 "Integer Computational Instructions", 2.5 "Conditional Branches".
use Rattle.std.specs.Prelude.{ℕ, Bool, false, not, ◌==◌, ◌+◌, ◌-◌, ◌*◌, ◌/◌, ◌%◌, ◌^◌, nat_lt, if◌then◌else◌, Option, Some, None, bit_and, bit_or, bit_xor, int_lt}
use Rattle.std.specs.Int.{w32, cast_signed, cast_unsigned}
use Rattle.std.specs.Int.Signed.{shr_z}
use Rattle.cv_isa.specs.declared.operation.Op.{Op}
use Rattle.cv_isa.specs.declared.operation.Op.TheVariants as op

-- sums and differences wrap at 2^32
abbrev pub plus32 : ℕ → ℕ → ℕ
plus32 a b = (a + b) % 2 ^ 32

abbrev pub minus32 : ℕ → ℕ → ℕ
minus32 a b = (a + (2 ^ 32 - b)) % 2 ^ 32

-- less, as two's complement numbers
abbrev pub signed_lt : ℕ → ℕ → Bool
signed_lt a b = int_lt (cast_signed w32 a) (cast_signed w32 b)

abbrev pub one_if : Bool → ℕ
one_if test = if test then 1 else 0

-- shifts by the low five bits of b; the arithmetic one copies the sign bit
abbrev pub shifted_left : ℕ → ℕ → ℕ
shifted_left a b = a * 2 ^ (b % 32) % 2 ^ 32

abbrev pub shifted_right : ℕ → ℕ → ℕ
shifted_right a b = a / 2 ^ (b % 32)

abbrev pub shifted_right_signed : ℕ → ℕ → ℕ
shifted_right_signed a b = cast_unsigned w32 (shr_z (cast_signed w32 a) (2 ^ (b % 32)))

-- the result of a computation; b is rs2 or the immediate. Other operations compute nothing
abbrev pub computed : Op → ℕ → ℕ → Option ℕ
computed op.Addi a b = Some (plus32 a b)
computed op.Slti a b = Some (one_if (signed_lt a b))
computed op.Sltiu a b = Some (one_if (nat_lt a b))
computed op.Xori a b = Some (bit_xor a b)
computed op.Ori a b = Some (bit_or a b)
computed op.Andi a b = Some (bit_and a b)
computed op.Slli a b = Some (shifted_left a b)
computed op.Srli a b = Some (shifted_right a b)
computed op.Srai a b = Some (shifted_right_signed a b)
computed op.Add a b = Some (plus32 a b)
computed op.Sub a b = Some (minus32 a b)
computed op.Sll a b = Some (shifted_left a b)
computed op.Slt a b = Some (one_if (signed_lt a b))
computed op.Sltu a b = Some (one_if (nat_lt a b))
computed op.Xor a b = Some (bit_xor a b)
computed op.Srl a b = Some (shifted_right a b)
computed op.Sra a b = Some (shifted_right_signed a b)
computed op.Or a b = Some (bit_or a b)
computed op.And a b = Some (bit_and a b)
computed _ a b = None

-- whether a branch is taken; other operations take none
abbrev pub is_taken : Op → ℕ → ℕ → Bool
is_taken op.Beq a b = a == b
is_taken op.Bne a b = not (a == b)
is_taken op.Blt a b = signed_lt a b
is_taken op.Bge a b = not (signed_lt a b)
is_taken op.Bltu a b = nat_lt a b
is_taken op.Bgeu a b = not (nat_lt a b)
is_taken _ a b = false
