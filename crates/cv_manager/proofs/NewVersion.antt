-- Whether a table is another than the last version's, and what then becomes of the versions.
use Rattle.std.proofs.Common.{◌≡◌, Bool, true, false, List, ◌++◌, Some, None, sym, ap, ◌∙◌}
use Rattle.std.specs.Prelude.{if◌then◌else◌}
use Rattle.cv_base.specs.declared.cases.Case.{Case}
use Rattle.cv_base.specs.PlanOf.{PlanOf}
use Rattle.cv_histories.specs.Seen.{Seen}
use Rattle.cv_histories.specs.Versions.{newest_of, same_table, tables_from}
use Rattle.cv_manager.specs.Kept.{if_new}
use Rattle.cv_manager.specs.Progress.{ProgressOf, StandFrom}
use Rattle.cv_manager.specs.Tables.{patches_from}
use Rattle.cv_manager.proofs.TableLaws.{patches_are}
use Rattle.cv_runs.specs.PatchedRun.{Table}

-- the patches that the progress of the cases gives are the table
pub tables_are : (plan : PlanOf) (xs cases opened : List Case) (ps : List ProgressOf) (t : Table) (past : List Seen) → xs ≡ cases → t ≡ patches_from 0 (xs ++ opened) ps
    → StandFrom plan 0 past (cases ++ opened) ps → t ≡ tables_from plan 0 (cases ++ opened) past
tables_are plan xs cases opened ps t past same is stand =
    is ∙ ap (λ (l : List Case). patches_from 0 (l ++ opened) ps) same ∙ patches_are plan 0 past (cases ++ opened) ps stand

module _ (versions : List Table) (t u : Table) (is : t ≡ u) where
  same : (b : Bool) → same_table t (newest_of versions) ≡ b → same_table u (newest_of versions) ≡ b
  same b test = ap (λ (x : Table). same_table x (newest_of versions)) (sym is) ∙ test

  pub old_version : same_table t (newest_of versions) ≡ true → None ≡ if_new versions u
  old_version test = sym (ap (λ (b : Bool). if b then None else Some u) (same true test))

  pub new_version : same_table t (newest_of versions) ≡ false → Some t ≡ if_new versions u
  new_version test = ap Some is ∙ sym (ap (λ (b : Bool). if b then None else Some u) (same false test))
