use Rattle.std.proofs.Common.{◌++◌, List, drop}
use Rattle.cv_manager.specs.Posting.{all_of}
use Rattle.cv_manager.specs.Progress.{ProgressOf, StandFrom}
use Rattle.cv_manager.proofs.progress.progress_with.Given as goal

abbrev pub invariant-loop-number : goal.invariant-loop-number
invariant-loop-number l =
    (rest : List ProgressOf) → StandFrom l.posting.plan l.number (all_of l.posting) (drop l.number l.cases) rest → StandFrom l.posting.plan 0 (all_of l.posting) l.cases (l.next.items ++ rest)
