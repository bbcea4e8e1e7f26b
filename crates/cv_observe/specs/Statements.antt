-- Laws on what is learned (docs/REPAIR.md, "Learning").
use Rattle.std.specs.Prelude.{◌≡◌, true, IsTrue, List}
use Rattle.std.specs.List.{list_all}
use Rattle.cv_base.specs.declared.entries.Observation.{Observation}
use Rattle.cv_base.specs.declared.invariants.Invariant.{Invariant}
use Rattle.cv_base.specs.Invariants.{is_invariant}
use Rattle.cv_base.specs.Picture.{Picture, is_point}
use Rattle.cv_observe.specs.StandsFor.{are_at_points}
use Rattle.cv_runs.specs.Invariants.{point_of}
use Rattle.cv_runs.specs.Learned.{learned}

-- what is learned are invariants
abbrev pub LearnedAreInvariants : Type 0
LearnedAreInvariants = (image : Picture) (seen : List Observation) → list_all is_invariant (learned image seen) ≡ true

-- at points, where what was seen was seen at points
abbrev pub LearnedAreAtPoints : Type 0
LearnedAreAtPoints =
    (image : Picture) (seen : List Observation) → IsTrue (are_at_points image seen)
    → list_all (λ (k : Invariant). is_point image (point_of k)) (learned image seen) ≡ true
