use Rattle.std.proofs.Common.{◌≡◌, ◌≤◌, ◌^◌, drop}
use Rattle.cv_asm.specs.Capped.{sized}
use Rattle.cv_asm.proofs.numbers.digits_from_zero.Given as goal

abbrev pub invariant-loop-c : goal.invariant-loop-c
invariant-loop-c l = record {
  so_far : sized l.base l.size (drop l.c-index l.text) ≡ sized l.base 0 l.text;
  small : l.size ≤ 2 ^ 33;
}
