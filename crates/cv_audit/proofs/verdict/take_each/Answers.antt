use Rattle.std.proofs.Common.{◌≡◌, ◌∙◌, ℕ, Option, length, ap, subst}
use Rattle.std.specs.Prelude.{IfSome}
use Rattle.cv_histories.specs.Legal.{IsLegal}
use Rattle.cv_manager.specs.ManagerOf.{ManagerOf}
use Rattle.cv_audit.specs.Clauses.{Breaks}
use Rattle.cv_audit.proofs.Judging.{is_wrong, one_more}
use Rattle.cv_audit.proofs.verdict.take_each.Goals as goal

pub returns-in-Some-clause-wrong : goal.returns-in-Some-clause-wrong
returns-in-Some-clause-wrong c =
    let m = c.loop-entry.book in
    let took = c.in_ok-clause.ensures in
    let left = subst (λ (found : Option ℕ). IfSome found (λ clause. c.take.new.book ≡ m)) c.in-Some.is took.left in
    let breaks = subst (λ (found : Option ℕ). IfSome found (Breaks m.plan m.past c.entry-item.result)) c.in-Some.is took.broken in
    is_wrong c.args.book.now.plan c.args.entries.now c.loop-entry.entry-index (length c.take.new.book.past) c.in-Some.clause c.entry-item.result m c.loop-entry-test.true c.entry-item.is
    c.loop-entry.invariant.plan c.loop-entry.invariant.past
    (ap (λ (m : ManagerOf). length m.past) left)
    (subst (λ (m : ManagerOf). IsLegal m.plan m.past) left c.manager-legal.ensures.legal) breaks

pub loop-entry-preserved : goal.loop-entry-preserved
loop-entry-preserved c =
    let loop = c.loop-entry in
    let took = c.in_ok-clause.ensures in
    let posted = took.posted c.in_default.is in
    record {
      plan = ap (λ (m : ManagerOf). m.plan) posted ∙ loop.invariant.plan;
      arena = took.plan ∙ loop.invariant.arena;
      past = one_more c.args.entries.now loop.entry-index c.entry-item.result loop.book c.take.new.book c.loop-entry-test.true c.entry-item.is posted loop.invariant.past;
      floors = took.floors c.in_default.is;
    }
