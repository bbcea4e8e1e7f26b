use Rattle.cv_audit.proofs.Rising.{from_zero}
use Rattle.cv_audit.proofs.rows.never_fall.Goals as goal

pub loop-row-init : goal.loop-row-init
loop-row-init c = from_zero c.args.rows.now
