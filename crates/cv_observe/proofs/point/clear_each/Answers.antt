use Rattle.std.proofs.Common.{◌≡◌, [], arith}
use Rattle.cv_isa.specs.Uses.{has}
use Rattle.cv_observe.specs.AtPoint.{IsRegister}
use Rattle.cv_observe.specs.declared.register.Register.{Register}
use Rattle.cv_observe.proofs.EachPlace.{each_more, parts_stay}
use Rattle.cv_observe.proofs.point.clear_each.Goals as goal

pub loop-x-preserved : goal.loop-x-preserved
loop-x-preserved c =
    each_more (λ x old new. (new.number ≡ old.number) × IsRegister (has c.args.window) new []) c.args.list.now c.loop-x.x c.loop-x.list c.index-list-x.result c.unseen.result (omega arith) c.loop-x.invariant
    (c.unseen.ensures.number, c.unseen.ensures.kept)

pub returns-clause-numbers : goal.returns-clause-numbers
returns-clause-numbers c =
    let cleared = c.loop-x.invariant in
    let same = cleared.length in
    parts_stay (λ (k : Register). k.number) c.args.list.now c.loop-x.list same (λ x d within. (cleared.done x (omega arith) d).0)
