use Rattle.std.proofs.Common.{◌≡◌, ◌≤◌, ◌-◌, IsTrue}
use Rattle.cv_base.specs.Picture.{is_point}
use Rattle.cv_machine.specs.Held.{state_of}
use Rattle.cv_machine.proofs.Remains.{Remains}
use Rattle.cv_machine.proofs.running.run.Given as goal

abbrev pub invariant-turns : goal.invariant-turns
invariant-turns l = record {
  image : l.machine.image ≡ l.fn.machine.image;
  point : IsTrue (is_point l.machine.image l.machine.core.pc);
  within : l.done ≤ l.budget;
  remains : Remains l.fn.machine.image (state_of l.fn.machine) l.budget l.done (state_of l.machine);
}

abbrev pub decreases-turns : goal.decreases-turns
decreases-turns l = l.budget - l.done
