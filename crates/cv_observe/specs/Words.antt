-- Registers hold words of 32 bits (RISC-V Unprivileged ISA, 2.1).
use Rattle.std.specs.Prelude.{ℕ, ◌^◌, ◌<◌, List}
use Rattle.std.specs.List.{All}
use Rattle.cv_base.specs.declared.entries.Observation.{Observation}

-- each register that was seen held a word
abbrev pub HaveWords : List Observation → Type 0
HaveWords seen = All (λ (o : Observation). All (λ (value : ℕ). value < 2 ^ 32) o.regs) seen
