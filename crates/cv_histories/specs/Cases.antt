-- Cases: which entry opens one, and its candidates (docs/REPAIR.md, "Cases").
use Rattle.std.specs.Prelude.{ℕ, Bool, true, false, not, ◌&&◌, ◌||◌, ◌==◌, ◌+◌, ◌-◌, nat_lt, List, [], ◌∷◌, ◌++◌, length, filter, fold, take, Option, Some, None}
use Rattle.std.specs.List.{list_any}
use Rattle.cv_base.specs.declared.cases.Case.{Case}
use Rattle.cv_base.specs.declared.ends.FailureId.{FailureId}
use Rattle.cv_base.specs.declared.entries.Entry.{Entry}
use Rattle.cv_base.specs.declared.invariants.Invariant.{Invariant}
use Rattle.cv_base.specs.PlanOf.{PlanOf}
use Rattle.cv_runs.specs.Invariants.{point_of}
use Rattle.cv_runs.specs.Text.{beginnings, proc_in}
use Rattle.cv_histories.specs.declared.TheConstants.{MOST_CASES, MOST_CANDIDATES}
use Rattle.cv_histories.specs.Seen.{Seen, live_failure, is_same_failure, learned_of}

abbrev pub distance : ℕ → ℕ → ℕ
distance a b = (a - b) + (b - a)

-- nearer to the site, and at equal distance lower
abbrev pub comes_before : ℕ → Invariant → Invariant → Bool
comes_before site a b =
    nat_lt (distance site (point_of a)) (distance site (point_of b))
    || ((distance site (point_of a) == distance site (point_of b)) && nat_lt (point_of a) (point_of b))

-- behind all that do not come after it: what is equally near keeps its order
abbrev pub placed : ℕ → List Invariant → Invariant → List Invariant
placed site [] k = k ∷ []
placed site (x ∷ xs) k = elim (comes_before site k x) [ true ↦ k ∷ x ∷ xs | false ↦ x ∷ placed site xs k ]

abbrev pub by_distance : ℕ → List Invariant → List Invariant
by_distance site invariants = fold (placed site) [] invariants

-- the invariants of the procedure of a site
abbrev pub of_procedure : List ℕ → ℕ → List Invariant → List Invariant
of_procedure starts site invariants = filter (λ (k : Invariant). proc_in starts (point_of k) == proc_in starts site) invariants

-- the first site whose procedure has an invariant decides
abbrev pub candidates_at : List ℕ → List Invariant → List ℕ → List Invariant
candidates_at starts invariants [] = []
candidates_at starts invariants (site ∷ sites) =
    elim (of_procedure starts site invariants) [
      | [] ↦ candidates_at starts invariants sites
      | k ∷ ks ↦ take MOST_CANDIDATES (by_distance site (k ∷ ks))
    ]

abbrev pub has_case : List Case → FailureId → Bool
has_case cases id = list_any (λ (c : Case). is_same_failure c.id id) cases

-- the case that a live entry with this failure opens, if any; `past` has that entry as its newest
abbrev pub opened_by : PlanOf → List Case → List Seen → List ℕ → Option FailureId → List Case
opened_by plan before past sites None = []
opened_by plan before past sites (Some id) =
    elim (has_case before id || not (nat_lt (length before) MOST_CASES)) [
      | true ↦ []
      | false ↦ record { id = id; opened = length past - 1; candidates = candidates_at (beginnings plan.image) (learned_of plan past) sites } ∷ []
    ]

-- the cases of a history, in the order of their opening
abbrev pub cases_from : PlanOf → List Case → List Seen → Entry → List Case
cases_from plan before past e = before ++ opened_by plan before past e.sites (live_failure e)

abbrev pub cases : PlanOf → List Seen → List Case
cases plan [] = []
cases plan (s ∷ past) = cases_from plan (cases plan past) (s ∷ past) s.entry
