use Rattle.std.proofs.Common.{◌∙◌, ap}
use Rattle.std.specs.Prelude.{slice_get}
use Rattle.cv_manager.proofs.DecidedCase.{class_is}
use Rattle.cv_manager.specs.Progress.{DecidedOf}
use Rattle.cv_manager.proofs.manager.Manager.class.Goals as goal

pub returns : goal.returns
returns c = λ of at.
    c.copied.ensures
    ∙ c.get.ensures.value
    ∙ ap (λ (d : DecidedOf). slice_get d.classes c.args.candidate) c.decided-2.view_is
    ∙ class_is _ c.args.case of _ _ (c.in_ok-decided.ensures of at) c.args.candidate (c.requires.candidate of at)
