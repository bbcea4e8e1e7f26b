use Rattle.std.proofs.Common.{◌∙◌, ◌+◌, ap, refl, subst, arith}
use Rattle.cv_desk.proofs.Keeping.{has_ticket, past_runs}
use Rattle.cv_desk.proofs.pass.Pass.draw.Goals as goal
use Rattle.cv_desk.specs.Passes.{IsSeated}
use Rattle.cv_rule.specs.Steps.{drawn}

-- src/pass.rt
pub returns-then-from-number-clause-none : goal.returns-then-from-number-clause-none
returns-then-from-number-clause-none g c =
    let p = c.self.inside in
    past_runs p.worker p.first p.count c.args.self.now c.draw-number.new.pass.me.0 c.draw-number.result
    (subst (λ v. IsSeated p.worker p.first p.count v) c.self.view_is c.self.invariant.2)
    (c.draw-number.ensures.drawn ∙ ap (λ v. drawn v c.draw-number.result) c.self.view_is)
    (let count = c.from.ensures in let past = c.if-from-number.true in omega arith)

pub returns-clause-drawn : goal.returns-clause-drawn
returns-clause-drawn g c =
    let p = c.self.inside in
    let is = c.draw-number.ensures.drawn ∙ ap (λ v. drawn v c.draw-number.result) c.self.view_is in (
      is,
      has_ticket p.worker p.first p.count c.args.self.now c.draw-number.new.pass.me.0 c.draw-number.result (p.first + c.draw-number.result)
          (subst (λ v. IsSeated p.worker p.first p.count v) c.self.view_is c.self.invariant.2)
          c.requires is
          (let count = c.from.ensures in let below = c.if-from-number.false in omega arith)
          refl,
    )
