-- The patches and changes of cases whose progress is that after a history are those of the history.
use Rattle.std.proofs.Common.{◌≡◌, ℕ, suc, ◌+◌, Bool, true, false, ◌&&◌, List, [], ◌∷◌, ◌++◌, ◌∙◌, refl, sym, ap, length, Option, Some, None}
use Rattle.std.proofs.lemmas.Bool.{and_from}
use Rattle.std.proofs.lemmas.List.Folds.{list_all-append}
use Rattle.std.proofs.lemmas.List.Sums.{AllPass-from_list_all}
use Rattle.std.proofs.lemmas.Option.{get_or_from_slice_get, slice_get_within}
use Rattle.std.specs.List.{AllByRecursion, list_all}
use Rattle.std.specs.Prelude.{slice_get}
use Rattle.cv_base.specs.declared.cases.Case.{Case}
use Rattle.cv_base.specs.declared.cases.Repair.{Repair}
use Rattle.cv_base.specs.declared.invariants.Invariant.{Invariant}
use Rattle.cv_base.specs.Invariants.{is_invariant}
use Rattle.cv_base.specs.Patches.{is_action, is_patch, is_table}
use Rattle.cv_base.specs.Picture.{Picture}
use Rattle.cv_base.specs.PlanOf.{PlanOf}
use Rattle.cv_histories.specs.Classes.{is_decided}
use Rattle.cv_histories.specs.Installed.{again, best_repair, change_to, changes_at, installed}
use Rattle.cv_histories.specs.Repairs.{repairs_of}
use Rattle.cv_histories.specs.Seen.{Seen}
use Rattle.cv_histories.specs.Versions.{case_table, checks_from, enforce_at, enforce_of, installed_patch, tables_from}
use Rattle.cv_manager.specs.Progress.{DecidedOf, DecidesIf, ProgressOf, StandFrom}
use Rattle.cv_manager.specs.Tables.{HasFew, IsCase, changes_from, enforced_of, installed_in, patches_from, patches_of}
use Rattle.cv_manager.proofs.NoTwins.{patches_apart}
use Rattle.cv_manager.proofs.RepairActions.{names_registers, repairs_name_registers}
use Rattle.cv_runs.specs.PatchedRun.{Table}

module _ (plan : PlanOf) where
  -- the patches of a case
  module _ (c : ℕ) (case : Case) (past : List Seen) where
    table_if : Bool → Table
    table_if b = elim b as (λ _. Table) [ true ↦ installed_patch plan c case past (installed plan c case past) | false ↦ checks_from c 0 case.candidates ]

    enforced_is : (o : Option ℕ) → enforced_of c case (repairs_of plan c case past) o ≡ installed_patch plan c case past o
    enforced_is None = refl
    enforced_is (Some j) = refl

    patches_are_at : (o : Option DecidedOf) → DecidesIf plan c case past o → patches_of c case o ≡ case_table plan c case past
    unfolding table_if
    patches_are_at None undecided = sym (ap table_if undecided)
    patches_are_at (Some d) decides =
        ap (λ repairs. enforced_of c case repairs d.installed) decides.repairs
        ∙ ap (enforced_of c case (repairs_of plan c case past)) decides.installed
        ∙ enforced_is (installed plan c case past)
        ∙ sym (ap table_if decides.decided)

  pub patches_are : (c : ℕ) (past : List Seen) (cases : List Case) (ps : List ProgressOf) → StandFrom plan c past cases ps → patches_from c cases ps ≡ tables_from plan c cases past
  patches_are c past [] [] stand = refl
  patches_are c past [] (p ∷ ps) stand = absurd stand
  patches_are c past (case ∷ cases) [] stand = absurd stand
  patches_are c past (case ∷ cases) (p ∷ ps) stand =
      ap (λ patches. patches ++ patches_from (c + 1) cases ps) (patches_are_at c case past p.decided stand.0.decided)
      ∙ ap (λ patches. case_table plan c case past ++ patches) (patches_are (c + 1) past cases ps stand.1)

  -- the installed repair of a case
  module _ (c : ℕ) (case : Case) (s : Seen) (past : List Seen) where
    installed_if : Bool → Option ℕ
    installed_if b =
        elim b as (λ _. Option ℕ) [
          | false ↦ None
          | true ↦ elim (is_decided plan c case past) as (λ _. Option ℕ) [
            | false ↦ best_repair c case (repairs_of plan c case (s ∷ past)) (s ∷ past)
            | true ↦ again plan c case s past (installed plan c case past)
          ]
        ]

    none_before : is_decided plan c case (s ∷ past) ≡ false → installed plan c case (s ∷ past) ≡ None
    unfolding installed_if
    none_before undecided = ap installed_if undecided

  none_undecided : (c : ℕ) (case : Case) (past : List Seen) → is_decided plan c case past ≡ false → installed plan c case past ≡ None
  none_undecided c case [] undecided = refl
  none_undecided c case (s ∷ past) undecided = none_before c case s past undecided

  installed_is : (c : ℕ) (case : Case) (past : List Seen) (o : Option DecidedOf) → DecidesIf plan c case past o → installed_in o ≡ installed plan c case past
  installed_is c case past None undecided = sym (none_undecided c case past undecided)
  installed_is c case past (Some d) decides = decides.installed

  pub changes_are : (c : ℕ) (s : Seen) (past : List Seen) (cases : List Case) (ps qs : List ProgressOf) → StandFrom plan c past cases ps → StandFrom plan c (s ∷ past) cases qs → changes_from (length past) c ps qs ≡ changes_at plan c cases s past
  changes_are c s past [] [] [] before after = refl
  changes_are c s past [] [] (q ∷ qs) before after = absurd after
  changes_are c s past [] (p ∷ ps) qs before after = absurd before
  changes_are c s past (case ∷ cases) [] qs before after = absurd before
  changes_are c s past (case ∷ cases) (p ∷ ps) [] before after = absurd after
  changes_are c s past (case ∷ cases) (p ∷ ps) (q ∷ qs) before after =
      ap (λ o. change_to (length past) c o (installed_in q.decided) ++ changes_from (length past) (c + 1) ps qs) (installed_is c case past p.decided before.0.decided)
      ∙ ap (λ o. change_to (length past) c (installed plan c case past) o ++ changes_from (length past) (c + 1) ps qs) (installed_is c case (s ∷ past) q.decided after.0.decided)
      ∙ ap (λ changes. change_to (length past) c (installed plan c case past) (installed plan c case (s ∷ past)) ++ changes) (changes_are (c + 1) s past cases ps qs before.1 after.1)

-- an element of a list all of whose elements pass
passes_at : {X : Type 0} (p : X → Bool) (xs : List X) (i : ℕ) (x : X) → list_all p xs ≡ true → slice_get xs i ≡ Some x → p x ≡ true
passes_at p xs i x all is =
    ap p (sym (get_or_from_slice_get xs i x x is)) ∙ AllPass-from_list_all p xs all i x (slice_get_within xs i x is)

-- the patches of a case whose candidates are invariants
module _ (c : ℕ) (case : Case) (kinds : list_all is_invariant case.candidates ≡ true) where
  checks_same : (x : ℕ) (ks : List Invariant) → list_all is_patch (checks_from c x ks) ≡ list_all is_invariant ks
  checks_same x [] = refl
  checks_same x (k ∷ ks) = ap (λ (b : Bool). is_invariant k && b) (checks_same (x + 1) ks)

  enforce_passes : (j : ℕ) (r : Repair) → is_action r.action ≡ true → (o : Option Invariant) → slice_get case.candidates r.candidate ≡ o → list_all is_patch (enforce_at c j r o) ≡ true
  enforce_passes j r names None is = refl
  enforce_passes j r names (Some k) is =
      and_from (is_invariant k && is_action r.action) true (and_from (is_invariant k) (is_action r.action) (passes_at is_invariant case.candidates r.candidate k kinds is) names) refl

  module _ (repairs : List Repair) (names : list_all names_registers repairs ≡ true) where
    repair_passes : (j : ℕ) (o : Option Repair) → slice_get repairs j ≡ o → list_all is_patch (enforce_of c j case o) ≡ true
    repair_passes j None is = refl
    repair_passes j (Some r) is = enforce_passes j r (passes_at names_registers repairs j r names is) (slice_get case.candidates r.candidate) refl

    enforced_passes : (o : Option ℕ) → list_all is_patch (enforced_of c case repairs o) ≡ true
    enforced_passes None = refl
    enforced_passes (Some j) = repair_passes j (slice_get repairs j) refl

  case_passes : (plan : PlanOf) (past : List Seen) (o : Option DecidedOf) → DecidesIf plan c case past o → list_all is_patch (patches_of c case o) ≡ true
  case_passes plan past None undecided = checks_same 0 case.candidates ∙ kinds
  case_passes plan past (Some d) decides =
      enforced_passes d.repairs (ap (list_all names_registers) decides.repairs ∙ repairs_name_registers plan c case past kinds) d.installed

patches_pass : (plan : PlanOf) (c : ℕ) (past : List Seen) (cases : List Case) (ps : List ProgressOf) → AllByRecursion (IsCase plan.image) cases → StandFrom plan c past cases ps → list_all is_patch (patches_from c cases ps) ≡ true
patches_pass plan c past [] [] each stand = refl
patches_pass plan c past [] (p ∷ ps) each stand = absurd stand
patches_pass plan c past (case ∷ cases) [] each stand = absurd stand
patches_pass plan c past (case ∷ cases) (p ∷ ps) each stand =
    list_all-append is_patch (patches_of c case p.decided) (patches_from (c + 1) cases ps)
    ∙ and_from _ _ (case_passes c case each.0.kinds plan past p.decided stand.0.decided) (patches_pass plan (c + 1) past cases ps each.1 stand.1)

pub patches_are_table : (plan : PlanOf) (c : ℕ) (past : List Seen) (cases : List Case) (ps : List ProgressOf) → AllByRecursion (IsCase plan.image) cases → StandFrom plan c past cases ps → is_table (patches_from c cases ps) ≡ true
patches_are_table plan c past cases ps each stand =
    and_from _ _ (patches_pass plan c past cases ps each stand) (patches_apart c cases ps)

-- what the table of the cases asks for
pub each_stands : (plan : PlanOf) (c : ℕ) (past : List Seen) (cases : List Case) (ps : List ProgressOf) → StandFrom plan c past cases ps → length ps ≡ length cases
each_stands plan c past [] [] stand = refl
each_stands plan c past [] (p ∷ ps) stand = absurd stand
each_stands plan c past (case ∷ cases) [] stand = absurd stand
each_stands plan c past (case ∷ cases) (p ∷ ps) stand = ap suc (each_stands plan (c + 1) past cases ps stand.1)

pub cases_of_both : (image : Picture) (cases more : List Case) → AllByRecursion (IsCase image) cases → AllByRecursion (IsCase image) more → AllByRecursion (IsCase image) (cases ++ more)
cases_of_both image [] more each each_more = each_more
cases_of_both image (case ∷ cases) more each each_more = (each.0, cases_of_both image cases more each.1 each_more)

pub each_has_few : (image : Picture) (cases : List Case) → AllByRecursion (IsCase image) cases → AllByRecursion HasFew cases
each_has_few image [] each = tt
each_has_few image (case ∷ cases) each = (each.0.few, each_has_few image cases each.1)
