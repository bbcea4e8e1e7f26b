use Rattle.cv_audit.proofs.Rising.{from_none}
use Rattle.cv_audit.proofs.rows.are_joined.Goals as goal

pub loop-row-init : goal.loop-row-init
loop-row-init c = from_none c.args.rows.now
