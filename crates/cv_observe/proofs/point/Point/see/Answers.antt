use Rattle.std.proofs.Common.{◌≡◌, ◌∙◌, true, refl, sym, ap, length, drop}
use Rattle.std.specs.Vec.{with_items}
use Rattle.cv_base.specs.Registers.{register}
use Rattle.cv_runs.specs.Arithmetic.{minus32}
use Rattle.cv_observe.proofs.AtPoints.{refilled, sees_numbers, point_sees}
use Rattle.cv_observe.specs.AtPoint.{numbers_of}
use Rattle.cv_observe.proofs.point.Point.see.Goals as goal

written : (c : goal.After-self-2-1) → (with_items c.args.self.now.registers c.see_all.new.list).items ≡ c.see_all.new.list
written c =
    let v = c.args.self.now.registers in
    refilled v.len c.see_all.new.list (drop (length c.see_all.new.list) v.items) (c.see_all.ensures.length ∙ ap length c.as_mut_slice.ensures.value ∙ sym v.ok.0)

pub returns-clause-numbers : goal.returns-clause-numbers
returns-clause-numbers c =
    ap numbers_of (written c)
    ∙ sees_numbers c.as_mut_slice.result.now c.see_all.new.list c.args.regs.now c.see_all.ensures.length c.see_all.ensures.each
    ∙ ap numbers_of c.as_mut_slice.ensures.value

pub returns-clause-kept : goal.returns-clause-kept
returns-clause-kept c window here o regs frame point =
    let k = c.args.self.now in
    point_sees c.as_mut_slice.result.now c.see_all.new.list c.args.regs.now c.see_all.ensures.length c.see_all.ensures.each
    k (record { registers = with_items k.registers c.see_all.new.list; offsets = c.see_all.new.offsets; seen = true }) c.offset-offset.result (sym c.as_mut_slice.ensures.value) (written c) refl c.see_all.ensures.offsets
    window here o regs
    (c.offset-offset.ensures ∙ ap (λ r. minus32 (register r 2) c.args.frame_sp) (sym regs) ∙ ap (λ f. minus32 (register o.regs 2) f) (sym frame))
    point
