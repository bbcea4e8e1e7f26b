use Rattle.std.proofs.Common.{◌≡◌, [], take, fold}
use Rattle.std.specs.BTreeSet.{insert_key}
use Rattle.std.specs.Ordering.{nat_cmp}
use Rattle.cv_observe.proofs.numbers.distinct.Given as goal

abbrev pub invariant-loop-n : goal.invariant-loop-n
invariant-loop-n l = l.keys.keys ≡ fold (insert_key nat_cmp) [] (take l.n-index l.numbers)
