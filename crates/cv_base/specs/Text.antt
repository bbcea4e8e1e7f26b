-- Addresses and bytes as text (docs/FORMATS.md, "Text forms").
use Rattle.std.specs.Prelude.{ℕ, true, ◌-◌, List, ◌++◌, length, replicate}
use Rattle.std.specs.Fmt.{digits}

-- an address or a register's value: eight upper-case hexadecimal digits
abbrev pub address_text : ℕ → List ℕ
address_text n = replicate (8 - length (digits 16 true n)) 48 ++ digits 16 true n
