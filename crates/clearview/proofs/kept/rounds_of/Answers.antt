use Rattle.std.proofs.Common.{subst}
use Rattle.cv_resume.specs.KeptRun.{IsKeptRun}
use Rattle.clearview.proofs.Keeping.{whole}
use Rattle.clearview.proofs.kept.rounds_of.Goals as goal

pub returns-in-Ok-Done : goal.returns-in-Ok-Done
returns-in-Ok-Done g c =
    whole g.D.Disk.means c.args.plan c.args.disk.now c.run_kept.new.disk c.in-Ok-Done.ensures.leaves c.in-Ok-Done.book _ _ _ _ c.whole.result.0 c.whole.result.1 c.in-Ok-Done.ensures.cause.later
    (subst (IsKeptRun g.D.Disk.means c.args.plan c.args.disk.now c.run_kept.new.disk) c.in-Ok-Done.field-0-is c.in-Ok-Done.ensures.ran) c.whole.ensures
