use Rattle.std.proofs.Common.{◌≡◌, ◌++◌, length}
use Rattle.std.specs.Vec.Iter.{into_iter_items, into_iter_len}
use Rattle.cv_desk.proofs.Ending.{HasTaken}
use Rattle.cv_desk.proofs.office.end_all.Given as goal
use Rattle.cv_desk.specs.Openings.{SettingOf}
use Rattle.cv_desk.specs.Passes.{AreDone}

abbrev pub invariant-loop-pass : goal.invariant-loop-pass
invariant-loop-pass g l =
    (l.yielded ++ into_iter_items l.pass-iterator ≡ into_iter_items l.initial.pass-iterator)
    × (into_iter_len l.pass-iterator ≡ length (into_iter_items l.pass-iterator))
    × (l.master.table_id ≡ l.fn.master.table_id)
    × (l.master.me.1 ≡ l.fn.master.me.1)
    × (l.master.me.0.known ≡ l.fn.master.me.0.known)
    × ((s : SettingOf) → AreDone s (into_iter_items l.initial.pass-iterator) → HasTaken s l.fn.master.me.0 l.yielded l.master.me.0)
