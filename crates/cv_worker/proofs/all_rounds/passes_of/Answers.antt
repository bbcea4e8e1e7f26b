use Rattle.std.proofs.Common.{◌∙◌, ◌++◌, [], ◌∷◌, length, sym, ap, append_assoc, arith}
use Rattle.std.specs.Vec.Iter.{into_iter_items}
use Rattle.cv_worker.proofs.Seating.{one_out}
use Rattle.cv_worker.proofs.all_rounds.passes_of.Goals as goal

-- src/all_rounds.rt
pub loop-instance-preserved : goal.loop-instance-preserved
loop-instance-preserved g c =
    let at = c.loop-instance in
    let x = c.in-Some.instance in
    let rest = into_iter_items c.next.new.self in (
      append_assoc at.yielded (x ∷ []) rest ∙ (ap (λ l. at.yielded ++ l) (sym c.in-Some.ensures.steps.0) ∙ at.invariant.0),
      (let was = at.invariant.1 in
          let gone = c.in-Some.ensures.steps.1 in
          let short = ap (λ l. length l) c.in-Some.ensures.steps.0 in
          omega arith),
      c.in_ok-push_pass.ensures ∙ one_out at.yielded at.passes.items x at.invariant.2,
    )
