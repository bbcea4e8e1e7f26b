use Rattle.std.proofs.Common.{◌≡◌, ◌∙◌, ◌||◌, refl, sym, ap, length, drop}
use Rattle.std.proofs.lemmas.List.{length-map}
use Rattle.std.specs.Vec.{with_items}
use Rattle.cv_observe.proofs.AtPoints.{refilled, joins_numbers, point_joins}
use Rattle.cv_observe.specs.AtPoint.{numbers_of}
use Rattle.cv_observe.specs.declared.register.Register.{Register}
use Rattle.cv_observe.proofs.point.Point.join.Goals as goal

written : (c : goal.After-self-2-1) → (with_items c.args.self.now.registers c.join_each.new.list).items ≡ c.join_each.new.list
written c =
    let v = c.args.self.now.registers in
    refilled v.len c.join_each.new.list (drop (length c.join_each.new.list) v.items) (c.join_each.ensures.length ∙ ap length c.as_mut_slice.ensures.value ∙ sym v.ok.0)

as_long : (c : goal.After-self-2-1) → length c.as_slice.result.now ≡ length c.as_mut_slice.result.now
as_long c =
    let number = λ (k : Register). k.number in
    ap length c.as_slice.ensures.value
    ∙ sym (length-map c.args.other.now.registers.items number) ∙ ap length c.requires ∙ length-map c.args.self.now.registers.items number
    ∙ sym (ap length c.as_mut_slice.ensures.value)

pub returns-clause-numbers : goal.returns-clause-numbers
returns-clause-numbers c =
    ap numbers_of (written c)
    ∙ joins_numbers c.as_mut_slice.result.now c.as_slice.result.now c.join_each.new.list c.join_each.ensures.length (as_long c) c.join_each.ensures.each
    ∙ ap numbers_of c.as_mut_slice.ensures.value

pub returns-clause-kept : goal.returns-clause-kept
returns-clause-kept c =
    let k = c.args.self.now in
    point_joins c.as_mut_slice.result.now c.as_slice.result.now c.join_each.new.list c.join_each.ensures.length (as_long c) c.join_each.ensures.each
    k c.args.other.now (record { registers = with_items k.registers c.join_each.new.list; offsets = c.join.new.self; seen = k.seen || c.args.other.now.seen })
    (sym c.as_mut_slice.ensures.value) (sym c.as_slice.ensures.value) (written c) refl c.join.ensures
