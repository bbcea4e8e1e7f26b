use Rattle.std.proofs.Common.{◌<◌, ◌≢◌, ◌∙◌, ap, length, get_or, below_more, get_or-set_other, get_or-set_same, arith}
use Rattle.std.proofs.lemmas.List.{get_or_default}
use Rattle.cv_class.specs.Rows.{counted_with}
use Rattle.cv_class.proofs.classes.count_each.Goals as goal

pub loop-candidate-preserved : goal.loop-candidate-preserved
loop-candidate-preserved c = record {
  counted = below_more _ _
      (λ x h d. let ne : x ≢ c.loop-candidate.candidate = omega arith in rw get_or-set_other (c.loop-candidate.invariant.counted x h d))
      (λ d.
      let within : c.loop-candidate.candidate < length c.loop-candidate.list = omega arith in
      rw get_or-set_same
      (c.counted.ensures
      ∙ ap (λ m. counted_with m c.row_at.result) (get_or_default _ _ _ d within ∙ c.loop-candidate.invariant.left c.loop-candidate.candidate (omega arith) d)
      ∙ ap (λ r. counted_with (get_or c.args.list.now c.loop-candidate.candidate d) r) c.row_at.ensures));
  left = λ x h d. let ne : x ≢ c.loop-candidate.candidate = omega arith in rw get_or-set_other (c.loop-candidate.invariant.left x (omega arith) d);
}
