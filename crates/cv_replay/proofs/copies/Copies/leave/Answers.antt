use Rattle.std.proofs.Common.{◌≡◌, ap, subst, sym, ◌∙◌}
use Rattle.cv_replay.specs.Standing.{IsWalk, plan_of}
use Rattle.cv_replay.proofs.copies.Copies.leave.Goals as goal

pub returns-in-Ok : goal.returns-in-Ok
returns-in-Ok c = λ plan script copies of_plan at.
    let same : c.in-Ok.copy ≡ c.args.walk.now = c.in-Ok.ensures in
    c.keep.ensures plan script copies (ap plan_of same ∙ of_plan) (subst (IsWalk script) (sym same) at)
