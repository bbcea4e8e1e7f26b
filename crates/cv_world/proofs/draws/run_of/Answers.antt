use Rattle.std.proofs.Common.{◌∙◌, sym, ap}
use Rattle.std.specs.Prelude.{slice_get}
use Rattle.cv_world.proofs.Ranges.{at_place, no_place}
use Rattle.cv_world.proofs.draws.run_of.Goals as goal

pub returns-then-place-numbers : goal.returns-then-place-numbers
returns-then-place-numbers c =
    let n = c.numbers_of-numbers.result in
    sym (ap (λ l. slice_get l c.args.place) c.numbers_of-numbers.ensures.numbers ∙ at_place n.first n.count c.args.place c.if-place-numbers.true)

pub returns-else-place-numbers : goal.returns-else-place-numbers
returns-else-place-numbers c =
    let n = c.numbers_of-numbers.result in
    sym (ap (λ l. slice_get l c.args.place) c.numbers_of-numbers.ensures.numbers ∙ no_place n.first n.count c.args.place c.if-place-numbers.false)
