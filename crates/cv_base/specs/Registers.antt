-- The registers x0 to x31 as a list of 32 numbers below 2^32.
-- RISC-V Unprivileged ISA, 2.1 "Programmers' Model for Base Integer ISA".
use Rattle.std.specs.Prelude.{ℕ, List, ◌==◌, if◌then◌else◌, replicate, slice_index, slice_set}

abbrev pub zero_registers : List ℕ
zero_registers = replicate 32 0

-- the value of register r
abbrev pub register : List ℕ → ℕ → ℕ
register registers r = slice_index registers r

-- the registers after a write of register r: x0 stays 0
abbrev pub with_register : List ℕ → ℕ → ℕ → List ℕ
with_register registers r value = if r == 0 then registers else slice_set registers r value
