use Rattle.std.proofs.Common.{◌<◌, length, sym, subst}
use Rattle.cv_base.specs.PlanOf.{PlanOf}
use Rattle.cv_world.proofs.world.World.next_run.Goals as goal

pub run_of-requires : goal.run_of-requires
run_of-requires c =
    subst (λ (plan : PlanOf). c.in_ok-round.round < length plan.rounds) (sym c.plan.ensures)
    (c.current_is_of_plan.ensures c.self.inside.book.plan c.self.inside.book.past c.in_ok-round.round (sym c.in_ok-round.ensures))
