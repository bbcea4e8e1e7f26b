use Rattle.std.proofs.Common.{◌≡◌, ap, true, sym, ◌∙◌}
use Rattle.cv_mem.specs.SpaceOf.{are_low}
use Rattle.cv_mem.proofs.Within.{high_stores}
use Rattle.cv_mem.proofs.space.Space.store_fault.Goals as goal

pub returns-then-lies_high : goal.returns-then-lies_high
returns-then-lies_high c =
    let within = c.lies_high.ensures.0 c.if-lies_high.true in
    let low : are_low c.args.self.now.regions ≡ true = rw (ap (λ v. are_low v.regions) c.self.view_is) at c.self.invariant.0.low in
    high_stores c.args.self.now.regions c.args.addr c.args.size low (sym c.is_aligned.ensures ∙ c.if-not-is_aligned.false) within.0 within.1
