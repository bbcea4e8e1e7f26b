-- The case that an entry opens.
use Rattle.std.proofs.Common.{◌≡◌, ◌<◌, ℕ, ◌-◌, Bool, true, false, not, ◌||◌, List, [], ◌∷◌, length, Some, refl, sym, ap, ◌∙◌, arith}
use Rattle.std.specs.Prelude.{nat_lt, IsTrue}
use Rattle.std.proofs.lemmas.Bool.{lt-ltb}
use Rattle.cv_base.specs.declared.cases.Case.{Case}
use Rattle.cv_base.specs.declared.ends.FailureId.{FailureId}
use Rattle.cv_base.specs.declared.invariants.Invariant.{Invariant}
use Rattle.cv_base.specs.declared.entries.Observation.{Observation}
use Rattle.cv_base.specs.Picture.{Picture}
use Rattle.cv_base.specs.PlanOf.{PlanOf}
use Rattle.cv_blocks.specs.TextMap.{text_only}
use Rattle.cv_histories.specs.Cases.{candidates_at, has_case, opened_by}
use Rattle.cv_histories.specs.Seen.{Seen, learned_of, live_failure, observed}
use Rattle.cv_runs.specs.Learned.{learned}
use Rattle.cv_runs.specs.Text.{beginnings}
use Rattle.cv_base.specs.WellFormed.{IsImage}
use Rattle.cv_manager.specs.declared.kept.Kept.{Kept}
use Rattle.cv_manager.specs.Kept.{IsKept}
use Rattle.cv_manager.proofs.Observing.{not_learned, observed_same}
use Rattle.cv_manager.proofs.RunPoints.{observed_at_points}

-- what is learned does not depend on the segments
pub learned_text : (image : Picture) (seen : List Observation) → learned (text_only image) seen ≡ learned image seen
learned_text image seen = refl

pub beginnings_text : (image : Picture) → beginnings (text_only image) ≡ beginnings image
beginnings_text image = refl

opens_none : (has few : Bool) → has ≡ false → few ≡ true → (has || not few) ≡ false
opens_none has few h k = ap (λ (b : Bool). b || not few) h ∙ ap not k

same_id : {a b : FailureId} → Some a ≡ Some b → a ≡ b
same_id is = cc

abbrev case_with : FailureId → ℕ → List Invariant → Case
case_with id n ks = record { id = id; opened = n; candidates = ks }

case_is : (case : Case) (id : FailureId) (n : ℕ) (ks : List Invariant) → case.id ≡ id → case.opened ≡ n → case.candidates ≡ ks → case ≡ case_with id n ks
case_is case id n ks a b d =
    ap (λ (x : FailureId). case_with x case.opened case.candidates) a
    ∙ ap (λ (x : ℕ). case_with id x case.candidates) b
    ∙ ap (case_with id n) d

pub opened_now : (plan : PlanOf) (before : List Case) (s : Seen) (past : List Seen) (id : FailureId) (case : Case)
    → live_failure s.entry ≡ Some id → has_case before id ≡ false → length before < 64
    → live_failure s.entry ≡ Some case.id → case.opened ≡ length past
    → case.candidates ≡ candidates_at (beginnings plan.image) (learned plan.image (observed plan past)) s.entry.sites
    → case ∷ [] ≡ opened_by plan before (s ∷ past) s.entry.sites (live_failure s.entry)
opened_now plan before s past id case failed new room same opened candidates =
    let number : length past ≡ length (s ∷ past) - 1 = omega arith in
    let test : (has_case before id || not (nat_lt (length before) 64)) ≡ false = opens_none (has_case before id) (nat_lt (length before) 64) new (lt-ltb (length before) 64 room) in
    let made : Case = record { id = id; opened = length (s ∷ past) - 1; candidates = candidates_at (beginnings plan.image) (learned_of plan (s ∷ past)) s.entry.sites } in
    let known : case.candidates ≡ made.candidates =
    candidates ∙ sym (ap (λ seen. candidates_at (beginnings plan.image) (learned plan.image seen) s.entry.sites) (observed_same plan s past (not_learned s.entry id failed))) in
    ap (λ (c : Case). c ∷ []) (case_is case id made.opened made.candidates (same_id (sym same ∙ failed)) (opened ∙ number) known)
    ∙ sym
    (ap (opened_by plan before (s ∷ past) s.entry.sites) failed
    ∙ ap (λ (b : Bool). elim b as (λ _. List Case) [ true ↦ [] | false ↦ made ∷ [] ]) test)
