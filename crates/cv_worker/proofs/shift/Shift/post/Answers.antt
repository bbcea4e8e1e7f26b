use Rattle.std.proofs.Common.{subst}
use Rattle.cv_exec.specs.RecordOf.{IsHonestUnder}
use Rattle.cv_worker.proofs.Running.{honest_after}
use Rattle.cv_worker.proofs.shift.Shift.post.Goals as goal

-- src/shift.rt
pub returns-in-Ok-clause-honest : goal.returns-in-Ok-clause-honest
returns-in-Ok-clause-honest g c =
    let r = c.args.outcome in
    honest_after c.args.pass.now c.post.new.self c.args.ticket r c.args.ticket.draw (subst (λ e. IsHonestUnder r.plan r.adopted e) c.entry-honest.ensures.value c.entry-honest.ensures.honest) c.requires.outcome c.in-Ok.ensures.posted
