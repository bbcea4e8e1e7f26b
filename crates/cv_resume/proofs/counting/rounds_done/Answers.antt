use Rattle.std.proofs.Common.{◌≡◌, ◌∙◌, ℕ, List, Option, length, ap, subst}
use Rattle.std.specs.Prelude.{◌≢◌, MatchOption, reverse}
use Rattle.std.specs.List.{AllByRecursion}
use Rattle.std.proofs.lemmas.List.{reverse-reverse}
use Rattle.cv_audit.specs.Judged.{IsLeast}
use Rattle.cv_base.specs.declared.entries.Entry.{Entry}
use Rattle.cv_base.specs.PlanOf.{PlanOf}
use Rattle.cv_histories.specs.Legal.{IsWhole, round_in, round_of}
use Rattle.cv_histories.specs.Runs.{run_at}
use Rattle.cv_manager.specs.ManagerOf.{ManagerOf}
use Rattle.cv_resume.specs.Refusing.{HasEntryOf}
use Rattle.cv_resume.proofs.WholeRounds.{least_part, least_up_to, least_within, whole_is_up_to}
use Rattle.cv_resume.proofs.counting.rounds_done.Goals as goal

pub returns-in_default-clause-up_to : goal.returns-in_default-clause-up_to
returns-in_default-clause-up_to c =
    let m = c.args.book.now in
    let whole : IsWhole m.plan m.past = subst (λ (o : Option ℕ). MatchOption o (IsWhole m.plan m.past) (IsLeast m.plan m.past)) c.in_default.is c.missing.ensures in
    whole_is_up_to m.plan m.past c.rounds_of.result (c.rounds_of.ensures ∙ ap (λ (p : PlanOf). length p.rounds) c.plan-plan.ensures) c.manager.ensures.legal whole

pub returns-then-is_begun-clause-part : goal.returns-then-is_begun-clause-part
returns-then-is_begun-clause-part c =
    let m = c.args.book.now in
    let k = c.in-Some.run' in
    let n = c.round_of-round.result in
    let least : IsLeast m.plan m.past k = subst (λ (o : Option ℕ). MatchOption o (IsWhole m.plan m.past) (IsLeast m.plan m.past)) c.in-Some.is c.missing.ensures in
    let is : n ≡ round_in (run_at m.plan k) = c.round_of-round.ensures ∙ ap (λ (p : PlanOf). round_in (run_at p k)) c.plan-plan.ensures in
    let past : reverse c.history-history.result.now ≡ m.past = ap (λ (es : List Entry). reverse es) c.history-history.ensures ∙ reverse-reverse c.manager.result.now.past ∙ ap (λ (b : ManagerOf). b.past) c.manager.ensures.value in
    least_part m.plan m.past k c.manager.ensures.legal least c.earlier_is_below.ensures n is
    (subst (λ (es : List Entry). HasEntryOf m.plan n es) past (subst (λ (p : PlanOf). HasEntryOf p n (reverse c.history-history.result.now)) c.plan-plan.ensures (c.is_begun.ensures.some c.if-is_begun.true)))

pub returns-clause-up_to : goal.returns-clause-up_to
returns-clause-up_to c =
    let m = c.args.book.now in
    let k = c.in-Some.run' in
    let n = c.round_of-round.result in
    let least : IsLeast m.plan m.past k = subst (λ (o : Option ℕ). MatchOption o (IsWhole m.plan m.past) (IsLeast m.plan m.past)) c.in-Some.is c.missing.ensures in
    let is : n ≡ round_in (run_at m.plan k) = c.round_of-round.ensures ∙ ap (λ (p : PlanOf). round_in (run_at p k)) c.plan-plan.ensures in
    let past : reverse c.history-history.result.now ≡ m.past = ap (λ (es : List Entry). reverse es) c.history-history.ensures ∙ reverse-reverse c.manager.result.now.past ∙ ap (λ (b : ManagerOf). b.past) c.manager.ensures.value in
    least_up_to m.plan m.past k c.manager.ensures.legal least c.earlier_is_below.ensures n is
    (subst (λ (es : List Entry). AllByRecursion (λ (o : Entry). round_of m.plan o ≢ n) es) past
    (subst (λ (p : PlanOf). AllByRecursion (λ (o : Entry). round_of p o ≢ n) (reverse c.history-history.result.now)) c.plan-plan.ensures (c.is_begun.ensures.none c.if-is_begun.false)))

pub returns-clause-within : goal.returns-clause-within
returns-clause-within c =
    let m = c.args.book.now in
    let k = c.in-Some.run' in
    let n = c.round_of-round.result in
    let least : IsLeast m.plan m.past k = subst (λ (o : Option ℕ). MatchOption o (IsWhole m.plan m.past) (IsLeast m.plan m.past)) c.in-Some.is c.missing.ensures in
    let is : n ≡ round_in (run_at m.plan k) = c.round_of-round.ensures ∙ ap (λ (p : PlanOf). round_in (run_at p k)) c.plan-plan.ensures in
    least_within m.plan m.past k c.manager.ensures.legal least n is
