use Rattle.std.proofs.Common.{◌∙◌, ap}
use Rattle.cv_patch.specs.Bumped.{with_firing}
use Rattle.cv_patch.proofs.Firings.{firing_rises, firing_written}
use Rattle.cv_patch.proofs.fired.Fired.fire.Goals as goal

pub invariant_of-self : goal.invariant_of-self
invariant_of-self c =
    let written =
    firing_written c.args.case c.args.index c.self.inside.rows.items c.row_of-at.result c.index-row.result.now c.fired_once_more.result c.self.invariant
    (rw c.self.view_is c.row_of-at.ensures) c.index-row.ensures c.fired_once_more.ensures in
    rw written (firing_rises c.args.case c.args.index c.self.inside.rows.items c.self.invariant)

pub returns : goal.returns
returns c =
    firing_written c.args.case c.args.index c.self.inside.rows.items c.row_of-at.result c.index-row.result.now c.fired_once_more.result c.self.invariant
    (rw c.self.view_is c.row_of-at.ensures) c.index-row.ensures c.fired_once_more.ensures
    ∙ ap (with_firing c.args.case c.args.index) c.self.view_is
