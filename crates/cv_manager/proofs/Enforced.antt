-- The one repair of a case that a table enforces.
use Rattle.std.proofs.Common.{◌≡◌, ℕ, ◌∙◌, Some, sym, ap, true}
use Rattle.std.proofs.lemmas.Bool.Decides.{Decides-eqb, same_from_decides}
use Rattle.std.specs.List.{list_any}
use Rattle.cv_histories.specs.Scores.{is_enforce_of}
use Rattle.cv_manager.specs.Journal.{EnforcesOne}
use Rattle.cv_runs.specs.PatchedRun.{Table}
use Rattle.cv_score.specs.Charged.{HasRepair}

pub has_one : (c i : ℕ) (t : Table) → list_any (is_enforce_of c i) t ≡ true → EnforcesOne t → HasRepair c t (Some i)
has_one c i t found one j =
    same_from_decides _ _
    ((λ also. one c i j found also), (λ same. ap (λ j. list_any (is_enforce_of c j) t) (sym same) ∙ found))
    (Decides-eqb i j)
