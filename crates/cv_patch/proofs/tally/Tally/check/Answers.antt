use Rattle.std.proofs.Common.{◌∙◌, ap}
use Rattle.cv_patch.specs.Bumped.{with_check}
use Rattle.cv_patch.proofs.Tallies.{check_keeps, check_written}
use Rattle.cv_patch.proofs.tally.Tally.check.Goals as goal

pub invariant_of-self : goal.invariant_of-self
invariant_of-self c =
    let written =
    check_written c.args.case c.args.index c.args.held c.self.inside.rows.items c.row_of-at.result c.index-row.result.now c.checked_once_more.result c.self.invariant.0
    (rw c.self.view_is c.row_of-at.ensures) c.index-row.ensures c.checked_once_more.ensures in
    rw written (check_keeps c.args.case c.args.index c.args.held c.self.inside.rows.items c.self.invariant)

pub returns : goal.returns
returns c =
    check_written c.args.case c.args.index c.args.held c.self.inside.rows.items c.row_of-at.result c.index-row.result.now c.checked_once_more.result c.self.invariant.0
    (rw c.self.view_is c.row_of-at.ensures) c.index-row.ensures c.checked_once_more.ensures
    ∙ ap (with_check c.args.case c.args.index c.args.held) c.self.view_is
