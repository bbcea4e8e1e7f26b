-- What holds of each version of a history's tables, and of the patches of a case.
use Rattle.std.proofs.Common.{ℕ, Bool, true, false, zero, suc, List, [], ◌∷◌, ◌++◌, Option, Some, None}
use Rattle.std.specs.Prelude.{if◌then◌else◌, slice_get, unwrap_or}
use Rattle.std.specs.List.{AllByRecursion}
use Rattle.cv_base.specs.declared.cases.Case.{Case}
use Rattle.cv_base.specs.declared.cases.Repair.{Repair}
use Rattle.cv_base.specs.declared.invariants.Invariant.{Invariant}
use Rattle.cv_base.specs.declared.patches.Action.{Action}
use Rattle.cv_base.specs.declared.patches.Patch.TheVariants.{Enforce}
use Rattle.cv_base.specs.PlanOf.{PlanOf}
use Rattle.cv_histories.specs.Classes.{is_decided}
use Rattle.cv_histories.specs.Installed.{installed}
use Rattle.cv_histories.specs.Repairs.{repairs_of}
use Rattle.cv_histories.specs.Seen.{Seen, table_at}
use Rattle.cv_histories.specs.Versions.{add_version, case_table, checks_from, enforce_at, enforce_of, installed_patch, newest_of, same_table}
use Rattle.cv_runs.specs.PatchedRun.{Table}

pub all_of : {X : Type 0} (P Q : X → Type 0) (xs : List X) → ((x : X) → P x → Q x) → AllByRecursion P xs → AllByRecursion Q xs
all_of P Q [] step h = tt
all_of P Q (x ∷ xs) step h = (step x h.0, all_of P Q xs step h.1)

module _ (P : Table → Type 0) where
  all_pushed : (ts : List Table) (t : Table) → AllByRecursion P ts → P t → AllByRecursion P (ts ++ t ∷ [])
  all_pushed [] t all h = (h, tt)
  all_pushed (x ∷ xs) t all h = (all.0, all_pushed xs t all.1 h)

  all_added_if : (b : Bool) (ts : List Table) (t : Table) → AllByRecursion P ts → P t → AllByRecursion P (if b then ts else ts ++ t ∷ [])
  all_added_if true ts t all h = all
  all_added_if false ts t all h = all_pushed ts t all h

  pub all_added : (ts : List Table) (t : Table) → AllByRecursion P ts → P t → AllByRecursion P (add_version ts t)
  all_added ts t all h = all_added_if (same_table t (newest_of ts)) ts t all h

  -- a version that is not there is the empty table
  unwrapped : P [] → (ts : List Table) (v : ℕ) → AllByRecursion P ts → P (unwrap_or (slice_get ts v) [])
  unwrapped none [] v all = none
  unwrapped none (t ∷ ts) zero all = all.0
  unwrapped none (t ∷ ts) (suc v) all = unwrapped none ts v all.1

  pub at_version : P [] → (ts : List Table) (version : Option ℕ) → AllByRecursion P ts → P (table_at ts version)
  at_version none ts None all = none
  at_version none ts (Some v) all = unwrapped none ts v all

  -- the patches of a case are checks, or nothing, or one repair
  module _ (plan : PlanOf) (c : ℕ) (case : Case) (past : List Seen) (checks : P (checks_from c 0 case.candidates)) (none : P []) (repair : (j : ℕ) (k : Invariant) (a : Action) → P (Enforce c j k a ∷ [])) where
    of_candidate : (j : ℕ) (r : Repair) (o : Option Invariant) → P (enforce_at c j r o)
    of_candidate j r None = none
    of_candidate j r (Some k) = repair j k r.action

    of_repair : (j : ℕ) (o : Option Repair) → P (enforce_of c j case o)
    of_repair j None = none
    of_repair j (Some r) = of_candidate j r (slice_get case.candidates r.candidate)

    of_installed : (o : Option ℕ) → P (installed_patch plan c case past o)
    of_installed None = none
    of_installed (Some j) = of_repair j (slice_get (repairs_of plan c case past) j)

    of_decided : (b : Bool) → P (elim b as (λ _. Table) [ true ↦ installed_patch plan c case past (installed plan c case past) | false ↦ checks_from c 0 case.candidates ])
    of_decided true = of_installed (installed plan c case past)
    of_decided false = checks

    pub of_case : P (case_table plan c case past)
    of_case = of_decided (is_decided plan c case past)
