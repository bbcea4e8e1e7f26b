use Rattle.std.proofs.Common.{◌≡◌, length}
use Rattle.cv_base.specs.PlanOf.{IsPlan}
use Rattle.cv_histories.specs.Runs.{runs}
use Rattle.cv_laws.specs.InOrder.{AreBelow, AreByWorkerZero}
use Rattle.cv_core.proofs.serial.run_in_order.Given as goal

abbrev pub invariant-loop-run : goal.invariant-loop-run
invariant-loop-run l = record {
  plan : l.book.plan ≡ l.initial.book.plan;
  arena : l.arena.plan ≡ l.book.plan;
  limits : IsPlan l.book.plan;
  runs : l.run-end ≡ length (runs l.book.plan);
  below : AreBelow l.run l.book.past;
  worker : AreByWorkerZero l.book.past;
}
