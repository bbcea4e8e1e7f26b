use Rattle.cv_blocks.proofs.WindowSets.{has_union}
use Rattle.cv_blocks.proofs.windows.union.Goals as goal

pub returns : goal.returns
returns c = λ r. has_union c.args.a.bits c.args.b.bits r
