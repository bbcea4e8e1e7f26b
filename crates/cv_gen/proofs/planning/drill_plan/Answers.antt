use Rattle.std.proofs.Common.{◌∙◌}
use Rattle.cv_gen.proofs.Limits.{drill_limits}
use Rattle.cv_gen.proofs.planning.drill_plan.Goals as goal

pub invariant_of-result : goal.invariant_of-result
invariant_of-result c =
    drill_limits c.in_ok-image.image c.args.number c.args.runs c.from_vec-rounds.result c.in_ok-good_inputs.field-0 c.in_ok-live_inputs.field-0
    c.requires.some c.requires.few c.in_ok-good_inputs.ensures c.in_ok-live_inputs.ensures (c.from_vec-rounds.ensures ∙ c.in_ok-vec.ensures.items)
