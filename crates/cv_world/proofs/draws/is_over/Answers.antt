use Rattle.std.proofs.Common.{◌≡◌, ◌∙◌, ◌+◌, ◌-◌, reverse, sym, ap, arith}
use Rattle.std.specs.List.{list_all, range_with_len}
use Rattle.cv_histories.specs.World.{is_posted}
use Rattle.cv_world.proofs.Ranges.{all_on, all_pass, all_stops}
use Rattle.cv_world.proofs.draws.is_over.Goals as goal

pub loop-number-init : goal.loop-number-init
loop-number-init c =
    let n = c.numbers_of-numbers.result in
    let test = is_posted (reverse c.args.history.now) in
    let count : n.count ≡ n.first + n.count - n.first = omega arith in
    ap (list_all test) (c.numbers_of-numbers.ensures.numbers ∙ ap (range_with_len n.first) count)

pub returns-then-not-is_posted : goal.returns-then-not-is_posted
returns-then-not-is_posted c =
    let n = c.numbers_of-numbers.result in
    let test = is_posted (reverse c.args.history.now) in
    sym (c.loop-number.invariant ∙ all_stops test c.loop-number.number (n.first + n.count) c.loop-number-test.true (sym c.is_posted.ensures ∙ c.if-not-is_posted.true))

pub loop-number-preserved : goal.loop-number-preserved
loop-number-preserved c =
    let n = c.numbers_of-numbers.result in
    let test = is_posted (reverse c.args.history.now) in
    c.loop-number.invariant ∙ all_on test c.loop-number.number (n.first + n.count) c.loop-number-test.true (sym c.is_posted.ensures ∙ c.if-not-is_posted.false)

pub returns : goal.returns
returns c =
    let n = c.numbers_of-numbers.result in
    let test = is_posted (reverse c.args.history.now) in
    sym (c.loop-number.invariant ∙ all_pass test c.loop-number.number (n.first + n.count) c.loop-number-test.false)
