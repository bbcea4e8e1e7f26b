use Rattle.std.proofs.Common.{◌≡◌, ◌++◌, take}
use Rattle.cv_runs.specs.Learned.{one_ofs}
use Rattle.cv_observe.proofs.kinds.add_one_ofs.Given as goal

abbrev pub invariant-loop-r : goal.invariant-loop-r
invariant-loop-r l = l.list.items ≡ l.initial.list.items ++ one_ofs l.point (take l.r-index l.reads) l.seen
