use Rattle.std.proofs.Common.{◌∙◌}
use Rattle.cv_manager.proofs.DecidedCase.{installed_is}
use Rattle.cv_manager.proofs.manager.Manager.installed.Goals as goal

pub returns : goal.returns
returns c = λ of at. c.installed.ensures ∙ installed_is _ c.args.case of _ _ (c.progress.ensures of at).decided
