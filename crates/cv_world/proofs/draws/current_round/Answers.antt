use Rattle.std.proofs.Common.{◌<◌, ◌∙◌, ℕ, length, reverse, sym, ap, arith}
use Rattle.std.specs.Prelude.{not}
use Rattle.std.specs.List.{list_all}
use Rattle.cv_base.specs.PlanOf.{PlanOf}
use Rattle.cv_histories.specs.World.{is_posted, numbers_of}
use Rattle.cv_world.proofs.Ranges.{find_on}
use Rattle.cv_world.proofs.draws.current_round.Goals as goal

pub loop-round-preserved : goal.loop-round-preserved
loop-round-preserved c =
    let plan = c.args.plan.now in
    let rounds = ap length (c.as_slice.ensures ∙ ap (λ (p : PlanOf). p.rounds) c.plan.view_is) in
    let below : c.loop-round.round < length plan.rounds = omega (arith, c.loop-round-test.true, rounds) in
    c.loop-round.invariant
    ∙ find_on (λ (round : ℕ). not (list_all (is_posted (reverse c.args.history.now)) (numbers_of plan round))) c.loop-round.round (length plan.rounds) below
    (ap not (sym c.is_over.ensures ∙ c.if-not-is_over.false))
