use Rattle.std.proofs.Common.{◌<◌, ◌∙◌, arith}
use Rattle.cv_replay.proofs.LastChange.{each_is}
use Rattle.cv_replay.proofs.changes.Changes.turns.Goals as goal

pub returns : goal.returns
returns c = λ since is.
    let over = c.loop-number-test.false in
    each_is c.loop-number.turns since 32 c.loop-number.invariant.all
    (λ reg below. let done : reg < c.loop-number.number = omega (arith, over, below) in c.loop-number.invariant.done reg done ∙ is reg below)
