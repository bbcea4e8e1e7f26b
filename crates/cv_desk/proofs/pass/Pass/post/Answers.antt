use Rattle.std.proofs.Common.{sym, subst}
use Rattle.cv_desk.proofs.Keeping.{may_post_again}
use Rattle.cv_desk.proofs.pass.Pass.post.Goals as goal
use Rattle.cv_desk.specs.Passes.{HasTicket, IsOutcome}

-- src/pass.rt
pub returns-clause-again : goal.returns-clause-again
returns-clause-again g c =
    let same = sym c.self.view_is in
    may_post_again c.post.result c.self.inside.seat.me.0 c.post.new.pass.me.0 c.args.ticket c.args.outcome
    (subst (λ v. HasTicket v c.args.ticket) same c.requires.ticket)
    (subst (λ v. IsOutcome v c.args.ticket c.args.outcome) same c.requires.outcome) c.post.ensures.as_before
