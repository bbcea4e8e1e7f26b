use Rattle.std.proofs.Common.{◌≡◌, ◌≤◌}
use Rattle.cv_desk.specs.Openings.{IsUpTo}
use Rattle.cv_histories.specs.Legal.{IsLegal}
use Rattle.cv_keep.specs.Keeping.{IsSettled}
use Rattle.cv_resume.specs.Resumed.{HasKept}
use Rattle.cv_resume.proofs.going_on.resume.Given as goal

abbrev pub invariant-loop-next : goal.invariant-loop-next
invariant-loop-next g l = record {
  of_plan : l.book.plan ≡ l.fn.book.plan;
  up_to : IsUpTo l.fn.book.plan l.next l.book.past;
  legal : IsLegal l.fn.book.plan l.book.past;
  settled : IsSettled g.D.Disk.means l.disk l.keep;
  kept : HasKept g.D.Disk.means l.fn.book.plan l.round l.next l.fn.book.past l.book.past l.initial.disk l.disk;
  faults : g.D.Disk.means.faults l.initial.disk ≤ g.D.Disk.means.faults l.disk;
}
