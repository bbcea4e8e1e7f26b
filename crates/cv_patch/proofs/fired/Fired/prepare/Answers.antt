use Rattle.std.proofs.Common.{◌≡◌}
use Rattle.cv_patch.specs.Prepared.{with_all_fired}
use Rattle.cv_patch.proofs.Firings.{all_fired_count, all_fired_ready, all_fired_rise, all_fired_up_to}
use Rattle.cv_patch.proofs.fired.Fired.prepare.Goals as goal

pub invariant_of-self-2 : goal.invariant_of-self-2
invariant_of-self-2 c =
    let whole : c.add_all.new.rows.items ≡ with_all_fired c.args.table.now c.self.inside.rows.items = cc in
    rw whole (all_fired_rise c.args.table.now c.self.inside.rows.items c.self.invariant)

pub returns-clause-ready : goal.returns-clause-ready
returns-clause-ready c =
    let whole : c.add_all.new.rows.items ≡ with_all_fired c.args.table.now c.args.self.now = cc in
    rw whole (all_fired_ready c.args.table.now c.args.self.now)

pub returns-clause-counts : goal.returns-clause-counts
returns-clause-counts c =
    let whole : c.add_all.new.rows.items ≡ with_all_fired c.args.table.now c.args.self.now = cc in
    λ firings counts. rw whole (all_fired_count firings c.args.table.now c.args.self.now counts)

pub returns-clause-limit : goal.returns-clause-limit
returns-clause-limit c =
    let whole : c.add_all.new.rows.items ≡ with_all_fired c.args.table.now c.args.self.now = cc in
    λ n limit. rw whole (all_fired_up_to n c.args.table.now c.args.self.now limit)
