use Rattle.std.proofs.Common.{◌≡◌, ◌∙◌, ◌++◌, List, ap, sym, subst, arith}
use Rattle.std.specs.List.{AllByRecursion}
use Rattle.cv_base.specs.PlanOf.{PlanOf}
use Rattle.cv_exec.specs.ArenaOf.{adopted_in, entry_of_going, turns_in}
use Rattle.cv_exec.specs.LiveRun.{HaveTables, Span, rows_of}
use Rattle.cv_exec.proofs.Answered.{grown_on}
use Rattle.cv_exec.proofs.Numbered.{live_of}
use Rattle.cv_exec.proofs.Passing.{onward}
use Rattle.cv_histories.specs.Honest.{IsHonest}
use Rattle.cv_histories.specs.Legal.{NeverFalls}
use Rattle.cv_histories.specs.Rows.{written}
use Rattle.cv_histories.specs.Seen.{is_live}
use Rattle.cv_exec.proofs.arena.Arena.live.Goals as goal

pub returns-clause-unfired : goal.returns-clause-unfired
returns-clause-unfired g c =
    let record_of = c.in_ok-record.record in
    let plan : record_of.plan ≡ c.args.plan.now = c.in_ok-record.ensures.plan ∙ c.loop-over.invariant.plan in
    let tables = g.A.Adopter.tables c.loop-over.adopter in
    let have : HaveTables tables record_of.adopted = rw c.in_ok-record.ensures.adopted c.loop-over.invariant.tables in
    let honest : IsHonest c.args.plan.now tables record_of.entry = rw (plan, c.entry-honest.ensures.value) at (c.entry-honest.ensures.honest tables have) in
    c.unfired_is_plain.ensures c.args.plan.now tables record_of.entry honest

pub returns-clause-run : goal.returns-clause-run
returns-clause-run g c =
    let going = c.loop-over.invariant.going in
    let entry = ap (entry_of_going c.args.plan.now) (sym going) ∙ ap (λ p. entry_of_going p c.loop-over.self.going) (sym c.loop-over.invariant.plan) ∙ c.in_ok-record.ensures.entry in
    let of = live_of c.flown_is_of.ensures c.args.plan.now c.args.run c.args.worker (turns_in c.loop-over.self.going) (adopted_in c.loop-over.self.going) c.in_ok-record.record.entry c.requires.lives entry in
    of.run

pub returns-clause-live : goal.returns-clause-live
returns-clause-live g c =
    let going = c.loop-over.invariant.going in
    let entry = ap (entry_of_going c.args.plan.now) (sym going) ∙ ap (λ p. entry_of_going p c.loop-over.self.going) (sym c.loop-over.invariant.plan) ∙ c.in_ok-record.ensures.entry in
    let of = live_of c.flown_is_of.ensures c.args.plan.now c.args.run c.args.worker (turns_in c.loop-over.self.going) (adopted_in c.loop-over.self.going) c.in_ok-record.record.entry c.requires.lives entry in
    of.mode

pub returns-clause-unseen : goal.returns-clause-unseen
returns-clause-unseen g c =
    let going = c.loop-over.invariant.going in
    let entry = ap (entry_of_going c.args.plan.now) (sym going) ∙ ap (λ p. entry_of_going p c.loop-over.self.going) (sym c.loop-over.invariant.plan) ∙ c.in_ok-record.ensures.entry in
    let of = live_of c.flown_is_of.ensures c.args.plan.now c.args.run c.args.worker (turns_in c.loop-over.self.going) (adopted_in c.loop-over.self.going) c.in_ok-record.record.entry c.requires.lives entry in
    c.in_ok-record.ensures.unseen (ap is_live of.mode)

pub loop-over-preserved : goal.loop-over-preserved
loop-over-preserved g c =
    let now = onward c.args.run c.args.worker c.loop-over.self.going c.enter.new.self.going c.go.new.self.going c.loop-over.invariant.going c.in_ok-enter.ensures.going c.in_ok-over.ensures.turned in
    record {
      plan = c.in_ok-over.ensures.plan ∙ c.in_ok-enter.ensures.plan ∙ c.loop-over.invariant.plan;
      going = now.going;
      over = c.in_ok-over.ensures.ended;
      rises = subst (λ (spans : List Span). NeverFalls (rows_of spans)) (sym now.adopted) (c.in_ok-enter.ensures.rises c.loop-over.invariant.rises);
      tables = subst (HaveTables (g.A.Adopter.tables c.enter.new.adopter)) (sym now.adopted) c.in_ok-enter.ensures.tables;
      answered = subst (AllByRecursion (λ (s : Span). g.A.Adopter.HasAnswered c.enter.new.adopter s.version)) (sym now.adopted) c.in_ok-enter.ensures.answered;
      answers = λ before so_far. subst (λ (spans : List Span). g.A.Adopter.Answers c.enter.new.adopter (before ++ written (rows_of spans))) (sym now.adopted) (c.in_ok-enter.ensures.answers before (c.loop-over.invariant.answers before so_far));
      grown = grown_on _ _ _ c.loop-over.invariant.grown c.in_ok-enter.ensures.grown;
      origin = c.in_ok-enter.ensures.origin ∙ c.loop-over.invariant.origin;
    }

pub loop-over-smaller : goal.loop-over-smaller
loop-over-smaller g c =
    let now = onward c.args.run c.args.worker c.loop-over.self.going c.enter.new.self.going c.go.new.self.going c.loop-over.invariant.going c.in_ok-enter.ensures.going c.in_ok-over.ensures.turned in
    let budget = ap (λ (p : PlanOf). p.budget) c.loop-over.invariant.plan in
    omega (arith, budget, now.before, c.in_ok-over.ensures.more, c.in_ok-enter.ensures.below)
