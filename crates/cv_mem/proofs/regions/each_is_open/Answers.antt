use Rattle.std.proofs.Common.{sym, ◌∙◌}
use Rattle.cv_mem.proofs.Within.{high_open}
use Rattle.cv_mem.proofs.regions.each_is_open.Goals as goal

pub returns-then-lies_high : goal.returns-then-lies_high
returns-then-lies_high c =
    let within = c.lies_high.ensures.0 c.if-lies_high.true in
    c.if-lies_high.true ∙ sym (high_open c.args.access c.args.regions.now c.args.addr c.args.len within.0 within.1)
