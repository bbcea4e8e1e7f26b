use Rattle.std.proofs.Common.{◌≡◌, ◌≤◌, length}
use Rattle.cv_patch.specs.Indexing.{FindsFirst, FindsNext}
use Rattle.cv_patch.proofs.indexed.chain.Given as goal

abbrev pub invariant-loop-at : goal.invariant-loop-at
invariant-loop-at l = record {
  within : l.at ≤ length l.patches;
  slots : length l.first.items ≡ 4096;
  places : length l.next.items ≡ length l.patches;
  firsts : FindsFirst l.patches l.first.items l.at;
  nexts : FindsNext l.patches l.next.items l.at;
}

abbrev pub decreases-loop-at : goal.decreases-loop-at
decreases-loop-at l = l.at
