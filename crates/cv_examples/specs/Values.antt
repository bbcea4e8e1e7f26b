-- Four values at a point are a one-of; five are a lower bound, the least as a signed number.
use Rattle.std.specs.Prelude.{◌≡◌, ◌==◌, ℕ, List, [], ◌∷◌, filter}
use Rattle.cv_base.specs.declared.invariants.Invariant.{Invariant}
use Rattle.cv_base.specs.declared.invariants.Invariant.TheVariants.{OneOf, Lower, LessThan}
use Rattle.cv_base.specs.declared.plan.Mode.TheVariants.{Learn}
use Rattle.cv_base.specs.PlanOf.{PlanOf}
use Rattle.cv_runs.specs.Invariants.{names, point_of}
use Rattle.cv_histories.specs.DrillPlan.{flat_image}
use Rattle.cv_histories.specs.OtherTexts.{inferred}

-- reads a number and exits with it
abbrev pub reading_words : List ℕ
reading_words = 0x00000513 ∷ 0xff010593 ∷ 0x00400613 ∷ 0x03f00893 ∷ 0x00000073 ∷ 0xff012303 ∷ 0x00030513 ∷ 0x05d00893 ∷ 0x00000073 ∷ []

abbrev pub reading_plan : List (List ℕ) → PlanOf
reading_plan inputs =
    record { image = flat_image reading_words; workers = 1; checks = 2; budget = 1000; rounds = record { mode = Learn; inputs = inputs } ∷ [] }

abbrev pub four : List (List ℕ)
four = (1 ∷ 0 ∷ 0 ∷ 0 ∷ []) ∷ (2 ∷ 0 ∷ 0 ∷ 0 ∷ []) ∷ (3 ∷ 0 ∷ 0 ∷ 0 ∷ []) ∷ (4 ∷ 0 ∷ 0 ∷ 0 ∷ []) ∷ []

-- and minus one
abbrev pub five : List (List ℕ)
five = (1 ∷ 0 ∷ 0 ∷ 0 ∷ []) ∷ (2 ∷ 0 ∷ 0 ∷ 0 ∷ []) ∷ (3 ∷ 0 ∷ 0 ∷ 0 ∷ []) ∷ (4 ∷ 0 ∷ 0 ∷ 0 ∷ []) ∷ (255 ∷ 255 ∷ 255 ∷ 255 ∷ []) ∷ []

-- what is learned where the number is used
abbrev pub at_use : List Invariant → List Invariant
at_use invariants = filter (λ (k : Invariant). point_of k == 0x10018) invariants

abbrev pub FourValues : Type 0
FourValues = filter (λ (k : Invariant). names k 6) (at_use (inferred (reading_plan four))) ≡ OneOf 0x10018 6 (1 ∷ 2 ∷ 3 ∷ 4 ∷ []) ∷ LessThan 0x10018 6 2 ∷ []

abbrev pub FiveValues : Type 0
FiveValues = filter (λ (k : Invariant). names k 6) (at_use (inferred (reading_plan five))) ≡ Lower 0x10018 6 0xffffffff ∷ LessThan 0x10018 6 2 ∷ []
