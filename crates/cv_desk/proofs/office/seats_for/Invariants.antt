use Rattle.std.proofs.Common.{◌≡◌, length}
use Rattle.cv_desk.proofs.office.seats_for.Given as goal
use Rattle.cv_desk.specs.Passes.{AreNew}
use Rattle.cv_desk.specs.Standing.{IsSeating}

abbrev pub invariant-loop-worker : goal.invariant-loop-worker
invariant-loop-worker g l =
    (l.master.table_id ≡ l.fn.master.table_id)
    × (l.master.me.1 ≡ l.fn.master.me.1)
    × IsSeating l.setting l.worker l.master.me.0
    × AreNew l.setting 0 l.passes.items
    × (length l.passes.items ≡ l.worker)
