use Rattle.std.proofs.Common.{length, sym, ap, subst, arith}
use Rattle.std.specs.List.{AllByRecursion}
use Rattle.cv_worker.proofs.Seating.{all_back}
use Rattle.cv_worker.proofs.all_rounds.run_each.Goals as goal
use Rattle.cv_worker.specs.Instances.{HasMetEnd, IsOfSetting}

-- src/all_rounds.rt
pub returns-clause-end : goal.returns-clause-end
returns-clause-end g c = λ s of.
    let value = c.as_mut_slice.ensures.value in
    let long = ap (λ l. length l) value in
    all_back (HasMetEnd s) c.args.instances.len c.round.new.instances c.args.instances.items (omega (arith, long, c.round.ensures.count))
    (c.in_ok-round.ensures.end s (subst (λ l. AllByRecursion (IsOfSetting s) l) (sym value) of))
