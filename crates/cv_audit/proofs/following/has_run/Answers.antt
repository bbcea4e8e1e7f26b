use Rattle.cv_audit.proofs.Lists.{contained}
use Rattle.cv_audit.proofs.following.has_run.Goals as goal

pub returns-then-earlier-run-clause-has : goal.returns-then-earlier-run-clause-has
returns-then-earlier-run-clause-has c =
    λ is. (c.earlier-item.result, contained c.args.history.now c.loop-earlier.earlier-index c.earlier-item.result c.loop-earlier-test.true c.earlier-item.is, c.if-earlier-run.true)
