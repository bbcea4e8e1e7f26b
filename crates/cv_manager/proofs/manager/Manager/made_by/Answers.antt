use Rattle.std.proofs.Common.{arith}
use Rattle.cv_manager.proofs.Makers.{each_kept, maker_kept}
use Rattle.cv_manager.proofs.manager.Manager.made_by.Goals as goal

pub index-requires : goal.index-requires
index-requires c = omega (arith, each_kept c.self.inside.kept c.self.invariant c.args.self.now c.self.view_is)

pub returns : goal.returns
returns c = maker_kept c.self.inside.kept c.self.invariant c.args.self.now c.self.view_is c.args.version c.requires c.index.result.now c.index.ensures
