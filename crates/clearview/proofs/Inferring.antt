-- What is learned of the runs of a plan, one after another.
use Rattle.std.proofs.Common.{◌≡◌, ◌≤◌, ℕ, zero, suc, ◌+◌, List, [], ◌∷◌, ◌++◌, length, take, refl, sym, ap, ◌∙◌, arith, add-one, append_assoc, subst}
use Rattle.std.specs.Prelude.{slice_get}
use Rattle.std.specs.List.{flat_map}
use Rattle.std.proofs.lemmas.List.{append-nil, take_all}
use Rattle.cv_base.specs.declared.entries.Observation.{Observation}
use Rattle.cv_base.specs.PlanOf.{PlanOf}
use Rattle.cv_histories.specs.OtherTexts.{seen_in_learn_run}
use Rattle.cv_histories.specs.Runs.{Run, runs}
use Rattle.cv_observe.specs.StandsFor.{StandsFor, SummaryOf}
use Rattle.clearview.specs.Inferring.{seen_of, seen_in_run_at}

-- ---- what is seen in them

more : (plan : PlanOf) (rs : List Run) (k : ℕ)
    → flat_map (seen_in_learn_run plan) (take (suc k) rs) ≡ flat_map (seen_in_learn_run plan) (take k rs) ++ seen_of plan (slice_get rs k)
more plan [] zero = refl
more plan [] (suc k) = refl
more plan (r ∷ rs) zero = append-nil (seen_in_learn_run plan r)
more plan (r ∷ rs) (suc k) = ap (λ l. seen_in_learn_run plan r ++ l) (more plan rs k) ∙ sym (append_assoc (seen_in_learn_run plan r) _ _)

pub one_more : (plan : PlanOf) (k : ℕ) (old new : SummaryOf)
    → StandsFor old (flat_map (seen_in_learn_run plan) (take k (runs plan)))
    → ((seen : List Observation) → StandsFor old seen → StandsFor new (seen ++ seen_in_run_at plan k))
    → StandsFor new (flat_map (seen_in_learn_run plan) (take (k + 1) (runs plan)))
one_more plan k old new before added =
    rw add-one (subst (λ l. StandsFor new l) (sym (more plan (runs plan) k)) (added _ before))

pub all_runs : (plan : PlanOf) (n : ℕ) (s : SummaryOf) → n ≡ length (runs plan)
    → StandsFor s (flat_map (seen_in_learn_run plan) (take n (runs plan)))
    → StandsFor s (flat_map (seen_in_learn_run plan) (runs plan))
all_runs plan n s e stands =
    let within : length (runs plan) ≤ n = omega arith in
    subst (λ l. StandsFor s (flat_map (seen_in_learn_run plan) l)) (take_all n (runs plan) within) stands
