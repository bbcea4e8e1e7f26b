use Rattle.std.proofs.Common.{◌≡◌, ◌++◌, List, drop}
use Rattle.cv_class.specs.Counted.{StandsFor}
use Rattle.cv_histories.specs.Seen.{Seen}
use Rattle.cv_manager.specs.Progress.{classes_from}
use Rattle.cv_manager.proofs.decided.classes_of.Given as goal

abbrev pub invariant-loop-candidate : goal.invariant-loop-candidate
invariant-loop-candidate l =
    (seen : List Seen) → StandsFor l.counted seen → l.classes.items ++ classes_from l.counted.case l.candidate seen (drop l.candidate l.case.candidates) ≡ classes_from l.counted.case 0 seen l.case.candidates
