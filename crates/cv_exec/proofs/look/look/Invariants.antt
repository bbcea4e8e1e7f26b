use Rattle.std.proofs.Common.{◌≡◌, IsTrue}
use Rattle.cv_base.specs.Picture.{is_point}
use Rattle.cv_machine.specs.Held.{state_of}
use Rattle.cv_runs.specs.PlainRun.{plain_run}
use Rattle.cv_exec.proofs.Looking.{Looks}
use Rattle.cv_exec.proofs.look.look.Given as goal

abbrev pub invariant-turns : goal.invariant-turns
invariant-turns l = record {
  image : l.machine.image ≡ l.fn.machine.image;
  text : l.summary.text ≡ l.fn.summary.text;
  point : IsTrue (is_point l.machine.image l.machine.core.pc);
  looks : Looks l.fn.machine.image (plain_run l.fn.machine.image l.input l.budget) l.left (state_of l.machine) l.summary;
}

abbrev pub decreases-turns : goal.decreases-turns
decreases-turns l = l.left
