use Rattle.std.proofs.Common.{◌≡◌, ◌≤◌, length}
use Rattle.cv_patch.specs.Indexing.{AllEmpty, AreEmpty}
use Rattle.cv_patch.proofs.indexed.count_free.Given as goal

abbrev pub invariant-loop-slot : goal.invariant-loop-slot
invariant-loop-slot l = record {
  within : l.slot ≤ 4096;
  frees : length l.free.items ≡ 4096;
  behind : AreEmpty l.count l.first l.slot l.run;
  all : AllEmpty l.count l.first l.free.items l.slot;
}

abbrev pub decreases-loop-slot : goal.decreases-loop-slot
decreases-loop-slot l = l.slot
