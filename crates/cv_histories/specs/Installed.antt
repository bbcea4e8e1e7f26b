-- Which repair of a case is installed, and where that changes (docs/REPAIR.md, "Installation").
use Rattle.std.specs.Prelude.{ℕ, Bool, true, false, ◌==◌, ◌+◌, if◌then◌else◌, List, [], ◌∷◌, ◌++◌, length, Option, Some, None}
use Rattle.cv_base.specs.declared.cases.Case.{Case}
use Rattle.cv_base.specs.declared.cases.Change.{Change}
use Rattle.cv_base.specs.declared.cases.Repair.{Repair}
use Rattle.cv_base.specs.PlanOf.{PlanOf}
use Rattle.cv_histories.specs.Cases.{cases}
use Rattle.cv_histories.specs.Classes.{is_decided}
use Rattle.cv_histories.specs.Repairs.{repairs_of}
use Rattle.cv_histories.specs.Scores.{best, is_fail}
use Rattle.cv_histories.specs.Seen.{Seen}

-- the best repair, where the case has repairs
abbrev pub best_repair : ℕ → Case → List Repair → List Seen → Option ℕ
best_repair c case [] past = None
best_repair c case (r ∷ rs) past = Some (best c case (length (r ∷ rs)) past)

-- at a fail of the installed repair the best one is installed again; at another entry it stays
abbrev pub again : PlanOf → ℕ → Case → Seen → List Seen → Option ℕ → Option ℕ
again plan c case s past None = None
again plan c case s past (Some j) =
    elim (is_fail c case j s) [ true ↦ best_repair c case (repairs_of plan c case (s ∷ past)) (s ∷ past) | false ↦ Some j ]

-- the repair of case c that is installed after a history: the best one at the last checked
-- failure that counts, and then as `again` says
abbrev pub installed : PlanOf → ℕ → Case → List Seen → Option ℕ
installed plan c case [] = None
installed plan c case (s ∷ past) =
    elim (is_decided plan c case (s ∷ past)) [
      | false ↦ None
      | true ↦ elim (is_decided plan c case past) [
        | false ↦ best_repair c case (repairs_of plan c case (s ∷ past)) (s ∷ past)
        | true ↦ again plan c case s past (installed plan c case past)
      ]
    ]

-- a case without candidates is dropped at once, and one without repairs when it is decided
abbrev pub is_none : List Repair → Bool
is_none [] = true
is_none (r ∷ rs) = false

abbrev pub is_empty_case : Case → Bool
is_empty_case case = length case.candidates == 0

abbrev pub is_dropped : PlanOf → ℕ → Case → List Seen → Bool
is_dropped plan c case past =
    elim (is_empty_case case) [
      | true ↦ true
      | false ↦ elim (is_decided plan c case past) [ true ↦ is_none (repairs_of plan c case past) | false ↦ false ]
    ]

-- the installed repair became another one at the entry
abbrev pub change_to : ℕ → ℕ → Option ℕ → Option ℕ → List Change
change_to entry c None None = []
change_to entry c (Some j) None = []
change_to entry c None (Some j) = record { entry = entry; case = c; withdrawn = None; installed = j } ∷ []
change_to entry c (Some i) (Some j) =
    if i == j then [] else record { entry = entry; case = c; withdrawn = Some i; installed = j } ∷ []

abbrev pub changes_at : PlanOf → ℕ → List Case → Seen → List Seen → List Change
changes_at plan c [] s past = []
changes_at plan c (case ∷ rest) s past =
    change_to (length past) c (installed plan c case past) (installed plan c case (s ∷ past)) ++ changes_at plan (c + 1) rest s past

-- the changes of a history, in the order of entries and then of cases
abbrev pub changes : PlanOf → List Seen → List Change
changes plan [] = []
changes plan (s ∷ past) = changes plan past ++ changes_at plan 0 (cases plan (s ∷ past)) s past
