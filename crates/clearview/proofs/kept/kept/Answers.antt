use Rattle.clearview.proofs.Keeping.{ran_comes}
use Rattle.clearview.proofs.kept.kept.Goals as goal

pub returns-in-Ok-clause-comes : goal.returns-in-Ok-clause-comes
returns-in-Ok-clause-comes g c =
    rw c.finish.ensures
    (ran_comes g.D.Disk.means c.args.job.now c.in-Ok.plan c.args.disk.now c.rounds_of-cause.new.disk _ _ _ _ c.rounds_of-cause.result.0 _ _ _ _ c.rounds_of-cause.result.1
    c.in-Ok.ensures.gives c.rounds_of-cause.ensures c.in-Ok.ensures.fault.later c.in-Ok.ensures.fetches)
