-- One more entry of a judged history, from what its tests and its run say; and the answers of a judge.
use Rattle.std.proofs.Common.{◌≡◌, ◌<◌, ◌≤◌, ◌+◌, ◌∙◌, ℕ, List, [], ◌∷◌, ◌++◌, length, get_or, take, refl, sym, ap, subst, inl, inr, arith}
use Rattle.std.proofs.lemmas.List.{length-reverse, length-take-le, take_all}
use Rattle.std.proofs.lemmas.Option.{slice_get_read}
use Rattle.std.specs.Prelude.{reverse}
use Rattle.cv_base.specs.declared.entries.Entry.{Entry}
use Rattle.cv_base.specs.PlanOf.{PlanOf}
use Rattle.cv_histories.specs.Honest.{IsHonest}
use Rattle.cv_histories.specs.Legal.{IsLegal, IsWhole, MayFollow}
use Rattle.cv_histories.specs.Versions.{ledger, newest}
use Rattle.cv_manager.specs.ManagerOf.{ManagerOf, empty_manager, with_entry}
use Rattle.cv_audit.specs.Clauses.{Breaks}
use Rattle.cv_audit.specs.Floors.{AreFloors, PassesFirst}
use Rattle.cv_audit.specs.Judged.{IsBookOf, IsLeast, IsVerdict, IsVerdictOf, IsWrong, before}
use Rattle.cv_audit.specs.declared.verdict.Verdict.{Verdict}
use Rattle.cv_audit.specs.declared.verdict.Verdict.TheVariants as verdict
use Rattle.cv_audit.proofs.Floors.{floors_push, seen_more}
use Rattle.cv_audit.proofs.Tests.{passes_follow}

-- ---- one more entry

-- an entry that passes all other tests and is not honest breaks the rest of clause 4 first
pub honest_fails : (plan : PlanOf) (past : List Entry) (e : Entry) → PassesFirst plan past e → (IsHonest plan (ledger plan past).versions e → ⊥) → Breaks plan past e 4
honest_fails plan past e first fails =
    inr (first.0, inr (first.1.0, inr (first.1.1.0, inr (first.1.1.1.0, inr (first.1.1.1.1.0, inr (first.1.1.1.1.1.0, inr (first.1.1.1.1.1.1.0, inl (fails, refl))))))))

-- and one that is honest may follow, as the entry of its run made again
pub ran_may_follow : (plan : PlanOf) (past : List Entry) (e ran : Entry) → ran ≡ e → PassesFirst plan past e → IsHonest plan (ledger plan past).versions e → MayFollow plan past ran
ran_may_follow plan past e ran same first honest =
    subst (MayFollow plan past) (sym same)
    (passes_follow plan past e (first.0, (first.1.0, (first.1.1.0, (first.1.1.1.0, (first.1.1.1.1.0, (first.1.1.1.1.1.0, (first.1.1.1.1.1.1.0, (honest, tt)))))))))

-- the floors behind an entry that was posted
pub floors_post : (m n : ManagerOf) (e : Entry) (floors after : List ℕ) (top : ℕ) → n ≡ with_entry m e → AreFloors m.plan m.past floors → top ≡ newest n.plan n.past → after ≡ floors ++ top ∷ [] → AreFloors n.plan n.past after
floors_post m n e floors after top posted are is pushed =
    subst (λ (fs : List ℕ). AreFloors n.plan n.past fs) (sym pushed)
    (subst (λ (k : ManagerOf). AreFloors k.plan k.past (floors ++ top ∷ [])) (sym posted)
    (floors_push m.plan m.past e floors top are (is ∙ ap (λ (k : ManagerOf). newest k.plan k.past) posted)))

-- ---- the entries so far

pub one_more : (entries : List Entry) (k : ℕ) (e : Entry) (m n : ManagerOf) → k < length entries → e ≡ get_or entries k e → n ≡ with_entry m e → m.past ≡ before entries k → n.past ≡ before entries (k + 1)
one_more entries k e m n within at posted so_far =
    ap (λ (m : ManagerOf). m.past) posted ∙ ap (λ (past : List Entry). e ∷ past) so_far ∙ sym (seen_more entries k e within at)

pub all_seen : (entries : List Entry) (k : ℕ) → length entries ≤ k → before entries k ≡ reverse entries
all_seen entries k all = ap (λ (h : List Entry). reverse h) (take_all k entries all)

-- the entry at this place breaks a clause first
pub is_wrong : (plan : PlanOf) (entries : List Entry) (k at clause : ℕ) (e : Entry) (m : ManagerOf) → k < length entries → e ≡ get_or entries k e → m.plan ≡ plan → m.past ≡ before entries k → at ≡ length m.past → IsLegal m.plan m.past → Breaks m.plan m.past e clause
    → IsWrong plan entries at clause
is_wrong plan entries k at clause e m within item of_plan so_far count legal breaks =
    let reach : k ≤ length entries = omega arith in
    let place : at ≡ k = count ∙ ap length so_far ∙ length-reverse (take k entries) ∙ length-take-le k entries reach in
    let told = subst (λ (p : PlanOf). IsLegal p m.past × Breaks p m.past e clause) of_plan (legal, breaks) in
    let here = subst (λ (past : List Entry). IsLegal plan past × Breaks plan past e clause) so_far told in
    subst (λ (n : ℕ). IsWrong plan entries n clause) (sym place)
    (record { entry = e; found = slice_get_read entries (length entries) k e refl within item; legal = here.0; breaks = here.1 })

-- all entries are a legal history
pub is_book : (plan : PlanOf) (entries : List Entry) (k : ℕ) (m : ManagerOf) → length entries ≤ k → m.plan ≡ plan → m.past ≡ before entries k → IsLegal m.plan m.past → IsBookOf plan entries m
is_book plan entries k m all of_plan so_far legal =
    let past : m.past ≡ reverse entries = so_far ∙ all_seen entries k all in
    record { of_plan = of_plan; past = past; legal = subst (λ (past : List Entry). IsLegal plan past) past (subst (λ (p : PlanOf). IsLegal p m.past) of_plan legal) }

-- ---- the answers

-- judged from the book of a plan without an entry on
pub wrong_from_empty : (plan : PlanOf) (entries : List Entry) (at clause : ℕ) (m n : ManagerOf) → m ≡ empty_manager plan → at ≡ length n.past → IsWrong m.plan entries (length n.past) clause → IsWrong plan entries at clause
wrong_from_empty plan entries at clause m n empty is wrong =
    subst (λ (p : PlanOf). IsWrong p entries at clause) (ap (λ (m : ManagerOf). m.plan) empty) (subst (λ (k : ℕ). IsWrong m.plan entries k clause) (sym is) wrong)

pub book_from_empty : (plan : PlanOf) (entries : List Entry) (m n : ManagerOf) → m ≡ empty_manager plan → IsBookOf m.plan entries n → IsBookOf plan entries n
book_from_empty plan entries m n empty is = subst (λ (p : PlanOf). IsBookOf p entries n) (ap (λ (m : ManagerOf). m.plan) empty) is

of_entries : (P : PlanOf → List Entry → Type 0) (plan : PlanOf) (entries : List Entry) (m : ManagerOf) → IsBookOf plan entries m → P m.plan m.past → P plan (reverse entries)
of_entries P plan entries m is holds = subst (P plan) is.past (subst (λ (p : PlanOf). P p m.past) is.of_plan holds)

pub verdict_of : (plan : PlanOf) (entries : List Entry) (m : ManagerOf) (v : Verdict) → IsBookOf plan entries m → IsVerdictOf m v → IsVerdict plan entries v
verdict_of plan entries m (verdict.Sound book) is told = (subst (IsBookOf plan entries) (sym told.0) is, of_entries IsWhole plan entries m is told.1)
verdict_of plan entries m (verdict.Wrong at clause) is told = absurd told
verdict_of plan entries m (verdict.Missing run) is told = (is.legal, of_entries (λ (p : PlanOf) (past : List Entry). IsLeast p past run) plan entries m is told.1)
