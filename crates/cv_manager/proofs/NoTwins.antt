-- Cases are numbered apart, and so are the candidates of a case: their patches have no twins.
use Rattle.std.proofs.Common.{◌≡◌, ℕ, ◌+◌, ◌<◌, Bool, true, false, not, ◌&&◌, List, [], ◌∷◌, ◌++◌, ◌∙◌, refl, ap, eqb, Option, Some, None, arith}
use Rattle.std.proofs.lemmas.Bool.{and_from, and_parts, ne_eqb, not-true, or_from}
use Rattle.std.proofs.lemmas.List.Folds.{list_any-append}
use Rattle.std.specs.List.{AllByRecursion, list_any}
use Rattle.std.specs.Prelude.{slice_get}
use Rattle.cv_base.specs.declared.cases.Case.{Case}
use Rattle.cv_base.specs.declared.cases.Repair.{Repair}
use Rattle.cv_base.specs.declared.invariants.Invariant.{Invariant}
use Rattle.cv_base.specs.declared.patches.Patch.{Patch}
use Rattle.cv_base.specs.declared.patches.Patch.TheVariants.{Check, Enforce}
use Rattle.cv_base.specs.Patches.{has_no_twins, is_twin}
use Rattle.cv_histories.specs.Versions.{checks_from, enforce_at, enforce_of}
use Rattle.cv_manager.specs.Progress.{DecidedOf, ProgressOf}
use Rattle.cv_manager.specs.Tables.{enforced_of, patches_from, patches_of}

abbrev case_of : Patch → ℕ
case_of (Check c x k) = c
case_of (Enforce c j k action) = c

-- other numbers, of cases or of candidates, are no twin's
apart_first : (a b : ℕ) (other : Bool) → a < b → (eqb a b && other) ≡ false
apart_first a b other less = ap (λ (same : Bool). same && other) (ne_eqb a b (λ e. omega arith))

apart_second : (same : Bool) (a b : ℕ) → a < b → (same && eqb a b) ≡ false
apart_second true a b less = ne_eqb a b (λ e. omega arith)
apart_second false a b less = refl

module _ (p : Patch) (d : ℕ) (before : case_of p < d) where
  apart_check : (q : Patch) → case_of q ≡ d → is_twin p q ≡ false
  apart_check = at_form p before
    where
      at_form : (p : Patch) → case_of p < d → (q : Patch) → case_of q ≡ d → is_twin p q ≡ false
      at_form (Check c x k) less (Check e y l) is = apart_first c e (eqb x y) (omega arith)
      at_form (Check c x k) less (Enforce e y l b) is = refl
      at_form (Enforce c x k a) less (Check e y l) is = refl
      at_form (Enforce c x k a) less (Enforce e y l b) is = apart_first c e (eqb x y) (omega arith)

  none_among : (qs : List Patch) → AllByRecursion (λ q. case_of q ≡ d) qs → list_any (is_twin p) qs ≡ false
  none_among [] each = refl
  none_among (q ∷ qs) each = or_from (is_twin p q) (list_any (is_twin p) qs) (apart_check q each.0) (none_among qs each.1)

-- the patches of a case have its number
checks_numbered : (c x : ℕ) (ks : List Invariant) → AllByRecursion (λ q. case_of q ≡ c) (checks_from c x ks)
checks_numbered c x [] = tt
checks_numbered c x (k ∷ ks) = (refl, checks_numbered c (x + 1) ks)

enforce_numbered : (c j : ℕ) (r : Repair) (o : Option Invariant) → AllByRecursion (λ q. case_of q ≡ c) (enforce_at c j r o)
enforce_numbered c j r None = tt
enforce_numbered c j r (Some k) = (refl, tt)

repair_numbered : (c j : ℕ) (case : Case) (o : Option Repair) → AllByRecursion (λ q. case_of q ≡ c) (enforce_of c j case o)
repair_numbered c j case None = tt
repair_numbered c j case (Some r) = enforce_numbered c j r (slice_get case.candidates r.candidate)

enforced_numbered : (c : ℕ) (case : Case) (repairs : List Repair) (o : Option ℕ) → AllByRecursion (λ q. case_of q ≡ c) (enforced_of c case repairs o)
enforced_numbered c case repairs None = tt
enforced_numbered c case repairs (Some j) = repair_numbered c j case (slice_get repairs j)

numbered : (c : ℕ) (case : Case) (o : Option DecidedOf) → AllByRecursion (λ q. case_of q ≡ c) (patches_of c case o)
numbered c case None = checks_numbered c 0 case.candidates
numbered c case (Some d) = enforced_numbered c case d.repairs d.installed

-- the patches of one case
later_candidates : (c x : ℕ) (k : Invariant) (y : ℕ) (ks : List Invariant) → x < y → list_any (is_twin (Check c x k)) (checks_from c y ks) ≡ false
later_candidates c x k y [] less = refl
later_candidates c x k y (l ∷ ks) less =
    or_from _ _ (apart_second (eqb c c) x y less) (later_candidates c x k (y + 1) ks (omega arith))

checks_apart : (c x : ℕ) (ks : List Invariant) → has_no_twins (checks_from c x ks) ≡ true
checks_apart c x [] = refl
checks_apart c x (k ∷ ks) =
    and_from _ _ (ap not (later_candidates c x k (x + 1) ks (omega arith))) (checks_apart c (x + 1) ks)

enforce_alone : (c j : ℕ) (r : Repair) (o : Option Invariant) → has_no_twins (enforce_at c j r o) ≡ true
enforce_alone c j r None = refl
enforce_alone c j r (Some k) = refl

repair_alone : (c j : ℕ) (case : Case) (o : Option Repair) → has_no_twins (enforce_of c j case o) ≡ true
repair_alone c j case None = refl
repair_alone c j case (Some r) = enforce_alone c j r (slice_get case.candidates r.candidate)

enforced_alone : (c : ℕ) (case : Case) (repairs : List Repair) (o : Option ℕ) → has_no_twins (enforced_of c case repairs o) ≡ true
enforced_alone c case repairs None = refl
enforced_alone c case repairs (Some j) = repair_alone c j case (slice_get repairs j)

case_apart : (c : ℕ) (case : Case) (o : Option DecidedOf) → has_no_twins (patches_of c case o) ≡ true
case_apart c case None = checks_apart c 0 case.candidates
case_apart c case (Some d) = enforced_alone c case d.repairs d.installed

-- the patches of later cases
later_cases : (p : Patch) (d : ℕ) (cases : List Case) (ps : List ProgressOf) → case_of p < d → list_any (is_twin p) (patches_from d cases ps) ≡ false
later_cases p d [] ps less = refl
later_cases p d (case ∷ cases) [] less = refl
later_cases p d (case ∷ cases) (q ∷ qs) less =
    list_any-append (is_twin p) (patches_of d case q.decided) (patches_from (d + 1) cases qs)
    ∙ or_from _ _ (none_among p d less (patches_of d case q.decided) (numbered d case q.decided)) (later_cases p (d + 1) cases qs (omega arith))

module _ (c : ℕ) (cases : List Case) (ps : List ProgressOf) (rest : has_no_twins (patches_from (c + 1) cases ps) ≡ true) where
  abbrev later : List Patch
  later = patches_from (c + 1) cases ps

  behind_later : (qs : List Patch) → AllByRecursion (λ q. case_of q ≡ c) qs → has_no_twins qs ≡ true → has_no_twins (qs ++ later) ≡ true
  behind_later [] each apart = rest
  behind_later (q ∷ qs) each apart =
      let parts = and_parts (not (list_any (is_twin q) qs)) (has_no_twins qs) apart in
      let alone : list_any (is_twin q) (qs ++ later) ≡ false =
      list_any-append (is_twin q) qs later
      ∙ or_from (list_any (is_twin q) qs) (list_any (is_twin q) later) (not-true (list_any (is_twin q) qs) parts.0) (later_cases q (c + 1) cases ps (omega (arith, each.0))) in
      and_from (not (list_any (is_twin q) (qs ++ later))) (has_no_twins (qs ++ later)) (ap not alone) (behind_later qs each.1 parts.1)

pub patches_apart : (c : ℕ) (cases : List Case) (ps : List ProgressOf) → has_no_twins (patches_from c cases ps) ≡ true
patches_apart c [] ps = refl
patches_apart c (case ∷ cases) [] = refl
patches_apart c (case ∷ cases) (p ∷ ps) =
    behind_later c cases ps (patches_apart (c + 1) cases ps) (patches_of c case p.decided) (numbered c case p.decided) (case_apart c case p.decided)
