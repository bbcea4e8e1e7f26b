use Rattle.std.proofs.Common.{IfOk, List, Result, length, slice_index_or, subst, sym, arith}
use Rattle.std.proofs.lemmas.Result.{IfOk-weaker}
use Rattle.cv_base.specs.declared.memory.NoMemory.{NoMemory}
use Rattle.cv_desk.specs.Passes.{Sight}
use Rattle.cv_worker.specs.Instances.{InstanceOf}
use Rattle.cv_worker.specs.Seats.{IsInstanceOf}
use Rattle.cv_worker.proofs.Seating.{all_made_for}
use Rattle.cv_worker.proofs.all_rounds.instances_for.Goals as goal

-- src/all_rounds.rt
pub returns : goal.returns
returns g c =
    let passes : List Sight = c.args.passes.items in
    let made : List (Result InstanceOf NoMemory) = c.in_ok-made.made.items in
    IfOk-weaker c.all_made.result _ _
    (λ instances are. all_made_for c.args.plan.now passes made instances.items (omega (arith, c.in_ok-made.ensures.len, c.in_ok-made.made.ok, c.args.passes.ok))
    (λ k d v below. let job = (c.in_ok-made.ensures.each k d below).1 in subst (λ (w : Sight). IfOk {T = InstanceOf} {E = NoMemory} (slice_index_or made k d) (IsInstanceOf c.args.plan.now w)) (sym (job.job_is v)) job.call.met) are)
    c.all_made.ensures
