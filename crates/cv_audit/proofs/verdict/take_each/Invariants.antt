use Rattle.std.proofs.Common.{◌≡◌}
use Rattle.cv_audit.specs.Floors.{AreFloors}
use Rattle.cv_audit.specs.Judged.{before}
use Rattle.cv_audit.proofs.verdict.take_each.Given as goal

abbrev pub invariant-loop-entry : goal.invariant-loop-entry
invariant-loop-entry l = record {
  plan : l.book.plan ≡ l.initial.book.plan;
  arena : l.arena.plan ≡ l.initial.arena.plan;
  past : l.book.past ≡ before l.entries l.entry-index;
  floors : AreFloors l.book.plan l.book.past l.floors.items;
}
