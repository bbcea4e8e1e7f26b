use Rattle.std.proofs.Common.{subst}
use Rattle.cv_base.specs.PlanOf.{IsPlan}
use Rattle.cv_world.proofs.Starts.{start_is, start_is_world}
use Rattle.cv_world.proofs.world.World.make.Goals as goal

pub invariant_of-result : goal.invariant_of-result
invariant_of-result c =
    start_is_world c.args.plan c.args.instances c.in_ok-book.book c.in_ok-book.ensures c.in_ok-instances.instances.items c.in_ok-instances.ensures
    c.worlds_stand.ensures (subst IsPlan c.plan.view_is c.plan.invariant) c.requires.few

pub returns-clause-start : goal.returns-clause-start
returns-clause-start c =
    start_is c.args.plan c.args.instances c.in_ok-book.book c.in_ok-book.ensures c.in_ok-instances.instances.items c.in_ok-instances.ensures
