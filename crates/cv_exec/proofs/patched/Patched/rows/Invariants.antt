use Rattle.std.proofs.Common.{◌≡◌, take}
use Rattle.cv_exec.specs.LiveRun.{rows_of}
use Rattle.cv_exec.proofs.patched.Patched.rows.Given as goal

abbrev pub invariant-loop-span : goal.invariant-loop-span
invariant-loop-span l = l.rows.items ≡ rows_of (take l.span-index l.span-items)
