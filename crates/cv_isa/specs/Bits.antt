-- Fields of an instruction word, and sign extension.
-- RISC-V Unprivileged ISA, "RV32I Base Integer Instruction Set", 2.2 and 2.3.
use Rattle.std.specs.Prelude.{ℕ, ◌+◌, ◌-◌, ◌/◌, ◌%◌, ◌^◌, nat_lt, if◌then◌else◌}

-- the field of `count` bits of `word` whose lowest bit is bit `low`: word[low + count - 1 : low]
abbrev pub bits : ℕ → ℕ → ℕ → ℕ
bits word low count = word / 2 ^ low % 2 ^ count

-- the 32-bit number that the two's complement `value` of `count` bits stands for
abbrev pub sign_extend : ℕ → ℕ → ℕ
sign_extend count value = if nat_lt value (2 ^ (count - 1)) then value else value + (2 ^ 32 - 2 ^ count)
