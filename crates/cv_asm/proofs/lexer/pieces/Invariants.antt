use Rattle.std.proofs.Common.{◌≡◌, ◌++◌, length, drop, nat_lt}
use Rattle.std.specs.List.{filter}
use Rattle.cv_asm.specs.Labels.{texts_of}
use Rattle.cv_asm.proofs.lexer.pieces.Given as goal

abbrev pub invariant-loop-run : goal.invariant-loop-run
invariant-loop-run l = texts_of l.pieces.items ++ filter (λ p. nat_lt 0 (length p)) (texts_of (drop l.run-index l.run-items)) ≡ filter (λ p. nat_lt 0 (length p)) (texts_of l.run-items)
