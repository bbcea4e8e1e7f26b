use Rattle.std.proofs.Common.{◌≡◌, ◌∙◌, take}
use Rattle.std.proofs.lemmas.List.{take_all}
use Rattle.cv_repair.proofs.Numbers.{for_chosen}
use Rattle.cv_repair.proofs.actions.repairs.Goals as goal

pub returns : goal.returns
returns c = λ judged are.
    let candidates = c.args.case.now.candidates in
    let whole : take c.loop-number.number-index c.args.chosen.now ≡ c.args.chosen.now = take_all _ _ c.loop-number-test.false in
    c.from_vec.ensures
    ∙ (rw (c.as_slice-candidates.ensures, whole) at c.loop-number.invariant)
    ∙ for_chosen c.args.map.now candidates c.args.chosen.now judged are
