use Rattle.std.proofs.Common.{◌∙◌, ap, arith}
use Rattle.cv_histories.specs.Serial.{serial}
use Rattle.cv_manager.specs.ManagerOf.{ManagerOf}
use Rattle.cv_core.proofs.serial.run_in_order.Goals as goal

pub returns-clause-whole : goal.returns-clause-whole
returns-clause-whole c =
    let loop = c.loop-run in
    c.below_is_whole.ensures loop.book.plan loop.run loop.book.past loop.invariant.below (omega (arith, loop.invariant.runs))

pub returns-clause-serial : goal.returns-clause-serial
returns-clause-serial c =
    let loop = c.loop-run in
    let whole = c.below_is_whole.ensures loop.book.plan loop.run loop.book.past loop.invariant.below (omega (arith, loop.invariant.runs)) in
    c.worker_zero_is_serial.ensures loop.book.plan loop.book.past loop.invariant.limits loop.invariant.worker c.manager-legal.ensures.legal whole
    ∙ ap serial (loop.invariant.plan ∙ ap (λ (m : ManagerOf). m.plan) c.in_ok-book.ensures)
