-- The patches and the changes that the progress of cases gives (docs/REPAIR.md, "Installation" and
-- "Versions").
use Rattle.std.specs.Prelude.{◌≡◌, ◌≤◌, ℕ, true, ◌+◌, List, [], ◌∷◌, ◌++◌, length, Option, Some, None, slice_get}
use Rattle.std.specs.List.{list_all}
use Rattle.cv_base.specs.declared.cases.Case.{Case}
use Rattle.cv_base.specs.declared.cases.Change.{Change}
use Rattle.cv_base.specs.declared.cases.Repair.{Repair}
use Rattle.cv_base.specs.declared.invariants.Invariant.{Invariant}
use Rattle.cv_base.specs.Invariants.{is_invariant}
use Rattle.cv_base.specs.Picture.{Picture, is_point}
use Rattle.cv_histories.specs.declared.TheConstants.{MOST_CANDIDATES}
use Rattle.cv_histories.specs.Installed.{change_to}
use Rattle.cv_histories.specs.Versions.{checks_from, enforce_of}
use Rattle.cv_manager.specs.Progress.{DecidedOf, ProgressOf}
use Rattle.cv_runs.specs.Invariants.{point_of}
use Rattle.cv_runs.specs.PatchedRun.{Table}

abbrev pub enforced_of : ℕ → Case → List Repair → Option ℕ → Table
enforced_of c case repairs None = []
enforced_of c case repairs (Some j) = enforce_of c j case (slice_get repairs j)

-- the patches of case c: its checks until it is decided, then its installed repair
abbrev pub patches_of : ℕ → Case → Option DecidedOf → Table
patches_of c case None = checks_from c 0 case.candidates
patches_of c case (Some d) = enforced_of c case d.repairs d.installed

-- the patches of each case, from number c on
abbrev pub patches_from : ℕ → List Case → List ProgressOf → Table
patches_from c (case ∷ cases) (p ∷ ps) = patches_of c case p.decided ++ patches_from (c + 1) cases ps
patches_from c _ _ = []

abbrev pub installed_in : Option DecidedOf → Option ℕ
installed_in None = None
installed_in (Some d) = d.installed

-- the changes at an entry, from case number c on
abbrev pub changes_from : ℕ → ℕ → List ProgressOf → List ProgressOf → List Change
changes_from entry c (p ∷ ps) (q ∷ qs) = change_to entry c (installed_in p.decided) (installed_in q.decided) ++ changes_from entry (c + 1) ps qs
changes_from entry c _ _ = []

-- what the candidates of a case of this image keep
pub record IsCase (image : Picture) (case : Case) : Type 0 where
  pub kinds : list_all is_invariant case.candidates ≡ true
  pub points : list_all (λ (k : Invariant). is_point image (point_of k)) case.candidates ≡ true
  pub few : length case.candidates ≤ MOST_CANDIDATES

-- no more candidates than a case may have
abbrev pub HasFew : Case → Type 0
HasFew case = length case.candidates ≤ MOST_CANDIDATES

-- the case that was opened, if any, as a list
abbrev pub opened_list : Option Case → List Case
opened_list None = []
opened_list (Some case) = case ∷ []
