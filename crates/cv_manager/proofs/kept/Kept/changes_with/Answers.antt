use Rattle.std.proofs.Common.{◌∙◌}
use Rattle.std.proofs.lemmas.Result.{IfOk-weaker}
use Rattle.cv_manager.proofs.Posted.{changes_now}
use Rattle.cv_manager.proofs.kept.Kept.changes_with.Goals as goal

pub returns : goal.returns
returns c =
    λ e stand.
    IfOk-weaker c.changes_with.result _ _
    (λ v is. is ∙ changes_now c.args.self.now c.requires e c.args.progress.now stand)
    (rw (c.as_slice.ensures.value, c.len.ensures.count, c.as_slice-2.ensures.value) at c.changes_with.ensures)
