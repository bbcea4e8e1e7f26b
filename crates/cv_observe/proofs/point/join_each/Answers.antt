use Rattle.std.proofs.Common.{◌∙◌, sym, ap, subst, length, get_or, arith}
use Rattle.std.proofs.lemmas.List.{get_or_default, length-map}
use Rattle.cv_observe.specs.AtPoint.{Joins}
use Rattle.cv_observe.specs.declared.register.Register.{Register}
use Rattle.cv_observe.proofs.EachPlace.{each_more, same_part}
use Rattle.cv_observe.proofs.point.join_each.Goals as goal

pub join-requires : goal.join-requires
join-requires c =
    let o : Register = c.index-others-x.result in
    let e : Register = c.index-list-x.result in
    let number = λ (k : Register). k.number in
    let long = sym (length-map c.args.others.now number) ∙ ap length c.requires ∙ length-map c.args.list.now number in
    let same = c.loop-x.invariant.length in
    ap number c.index-others-x.is
    ∙ same_part number c.args.others.now c.args.list.now c.requires c.loop-x.x o e (omega arith)
    ∙ sym (ap number (c.loop-x.invariant.left c.loop-x.x (omega arith) e))

pub loop-x-preserved : goal.loop-x-preserved
loop-x-preserved c =
    let others = c.args.others.now in
    let o : Register = c.index-others-x.result in
    let old : Register = get_or c.loop-x.list c.loop-x.x c.index-list-x.result in
    let number = λ (k : Register). k.number in
    let long = sym (length-map others number) ∙ ap length c.requires ∙ length-map c.args.list.now number in
    let same = c.loop-x.invariant.length in
    let joined : Joins old o c.join.new.self = record { number = c.join.ensures.number; kept = c.join.ensures.kept } in
    each_more (λ x old new. (d : Register) → Joins old (get_or others x d) new) c.args.list.now c.loop-x.x c.loop-x.list c.index-list-x.result c.join.new.self (omega arith) c.loop-x.invariant
    (λ d. subst (λ other. Joins old other c.join.new.self) (c.index-others-x.is ∙ get_or_default others c.loop-x.x o d (omega arith)) joined)
