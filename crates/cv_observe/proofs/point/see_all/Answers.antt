use Rattle.std.proofs.Common.{◌≡◌, sym, subst, get_or, ⊎_elim, arith}
use Rattle.std.proofs.lemmas.Bool.{cases_lt}
use Rattle.cv_observe.specs.AtPoint.{Sees}
use Rattle.cv_observe.specs.declared.register.Register.{Register}
use Rattle.cv_observe.proofs.point.see_all.Goals as goal

pub returns-then-done-list-clause-each : goal.returns-then-done-list-clause-each
returns-then-done-list-clause-each c x d within =
    let old = c.args.list.now in
    let quick = c.see_quick-done.new.list in
    let new = c.see_whole.new.list in
    let regs = c.args.regs.now in
    let long = c.see_quick-done.ensures.length in
    ⊎_elim
    (λ low. subst (λ (k : Register). Sees (get_or old x d) k regs) (sym (c.see_whole.ensures.before x d low)) (c.see_quick-done.ensures.done x d low))
    (λ high. subst (λ (k : Register). Sees k (get_or new x d) regs) (c.see_quick-done.ensures.left x d high) (c.see_whole.ensures.each x d high (omega arith)))
    (cases_lt x c.see_quick-done.result)
