use Rattle.std.proofs.Common.{◌∙◌, arith}
use Rattle.clearview.proofs.Numbers.{all_read, too_large}
use Rattle.clearview.proofs.words.number_in.Goals as goal

pub returns-in_err-checked_mul : goal.returns-in_err-checked_mul
returns-in_err-checked_mul c =
    c.from_residual.ensures
    ∙ too_large c.args.digits.now c.loop-digit.value c.loop-digit.digit-index c.loop-digit-test.true c.loop-digit.invariant.number
    (let above = c.in_err-checked_mul.ensures in omega arith)

pub returns-in_err-value : goal.returns-in_err-value
returns-in_err-value c =
    c.from_residual-in_err-value.ensures
    ∙ too_large c.args.digits.now c.loop-digit.value c.loop-digit.digit-index c.loop-digit-test.true c.loop-digit.invariant.number
    (let above = c.in_err-value.ensures in let tens = c.in_ok-checked_mul.ensures in let digit = c.from.ensures in omega arith)

pub returns : goal.returns
returns c =
    all_read c.args.digits.now c.loop-digit.value c.loop-digit.digit-index c.loop-digit-test.false c.loop-digit.invariant.small
    c.loop-digit.invariant.number c.loop-digit.invariant.rest
