use Rattle.std.proofs.Common.{◌≡◌, take}
use Rattle.cv_histories.specs.Cases.{by_distance, of_procedure}
use Rattle.cv_histories.specs.declared.TheConstants.{MOST_CANDIDATES}
use Rattle.cv_runs.specs.Text.{beginnings}
use Rattle.cv_case.specs.Referred.{referred}
use Rattle.cv_case.proofs.nearest.nearest.Given as goal

abbrev pub invariant-loop-invariant : goal.invariant-loop-invariant
invariant-loop-invariant l = referred l.nearest.items ≡ take MOST_CANDIDATES (by_distance l.site (of_procedure (beginnings l.map) l.site (take l.invariant-index l.learned)))
