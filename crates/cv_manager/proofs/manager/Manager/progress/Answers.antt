use Rattle.cv_manager.proofs.Standing.{stands_in}
use Rattle.cv_manager.proofs.manager.Manager.progress.Goals as goal

pub returns : goal.returns
returns c = λ of at. stands_in c.self.inside.kept c.self.invariant c.args.self.now c.self.view_is c.args.case of at c.index.result.now c.index.ensures
