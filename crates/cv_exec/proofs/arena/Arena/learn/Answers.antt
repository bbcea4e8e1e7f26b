use Rattle.std.proofs.Common.{◌≡◌, ◌∙◌, true, [], Some, ap, sym}
use Rattle.std.specs.Prelude.{IfOk}
use Rattle.std.proofs.lemmas.Result.{IfOk-weaker}
use Rattle.cv_exec.specs.ArenaOf.{entry_of_going, is_over, turns_in}
use Rattle.cv_exec.specs.LearnRun.{entry_by}
use Rattle.cv_exec.specs.RecordOf.{RecordOf}
use Rattle.cv_exec.proofs.Numbered.{learn_entry_by, learn_seen_by, learn_waits}
use Rattle.cv_exec.proofs.arena.Arena.learn.Goals as goal

pub step-requires-clause-entered : goal.step-requires-clause-entered
step-requires-clause-entered c =
    let going = c.loop-over.invariant.going in
    rw (going, c.loop-over.invariant.plan) (learn_waits c.flown_is_of.ensures c.args.plan.now c.args.run c.args.worker (turns_in c.loop-over.self.going) c.requires.learns)

ran : (c : goal.After-finish) → IfOk c.finish.result (λ (r : RecordOf). entry_by c.args.plan.now c.args.run c.args.worker ≡ Some r.entry)
ran c =
    let going = c.loop-over.invariant.going in
    let over : is_over c.args.plan.now (Some (record { run = c.args.run; worker = c.args.worker; turns = turns_in c.loop-over.self.going; adopted = [] })) ≡ true =
    ap (is_over c.args.plan.now) (sym going) ∙ ap (λ p. is_over p c.loop-over.self.going) (sym c.loop-over.invariant.plan) ∙ sym c.loop-over.invariant.over ∙ c.loop-over-test.false in
    IfOk-weaker c.finish.result _ _
    (λ r is.
    learn_entry_by c.flown_is_plain.ensures c.args.plan.now c.args.run c.args.worker (turns_in c.loop-over.self.going) r.entry c.requires.learns over
    (ap (entry_of_going c.args.plan.now) (sym going) ∙ ap (λ p. entry_of_going p c.loop-over.self.going) (sym c.loop-over.invariant.plan) ∙ is))
    c.finish.ensures.entry

pub returns-clause-entry : goal.returns-clause-entry
returns-clause-entry c = ran c

pub returns-clause-seen : goal.returns-clause-seen
returns-clause-seen c =
    learn_seen_by c.finish.result c.args.plan.now c.args.run c.args.worker c.finish.new.self.summary (ran c) (rw (← c.loop-over.invariant.plan) c.finish.ensures.learned)
