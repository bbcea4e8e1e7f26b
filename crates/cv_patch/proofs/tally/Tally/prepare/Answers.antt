use Rattle.std.proofs.Common.{◌≡◌}
use Rattle.cv_patch.specs.Prepared.{with_tallies}
use Rattle.cv_patch.proofs.Tallies.{tallies_count, tallies_kept, tallies_ready, tallies_up_to}
use Rattle.cv_patch.proofs.tally.Tally.prepare.Goals as goal

pub invariant_of-self-2 : goal.invariant_of-self-2
invariant_of-self-2 c =
    let whole : c.add_all.new.rows.items ≡ with_tallies c.args.table.now c.self.inside.rows.items = cc in
    rw whole (tallies_kept c.args.table.now c.self.inside.rows.items c.self.invariant)

pub returns-clause-ready : goal.returns-clause-ready
returns-clause-ready c =
    let whole : c.add_all.new.rows.items ≡ with_tallies c.args.table.now c.args.self.now = cc in
    rw whole (tallies_ready c.args.table.now c.args.self.now)

pub returns-clause-counts : goal.returns-clause-counts
returns-clause-counts c =
    let whole : c.add_all.new.rows.items ≡ with_tallies c.args.table.now c.args.self.now = cc in
    λ checks counts. rw whole (tallies_count checks c.args.table.now c.args.self.now counts)

pub returns-clause-limit : goal.returns-clause-limit
returns-clause-limit c =
    let whole : c.add_all.new.rows.items ≡ with_tallies c.args.table.now c.args.self.now = cc in
    λ n limit. rw whole (tallies_up_to n c.args.table.now c.args.self.now limit)
