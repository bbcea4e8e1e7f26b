use Rattle.std.proofs.Common.{◌≡◌, ◌<◌, ◌∙◌, length, get_or, ap, sym, arith}
use Rattle.std.proofs.lemmas.List.{get_or_read}
use Rattle.cv_patch.proofs.Slots.{all_free}
use Rattle.cv_patch.proofs.indexed.Indexed.free_from.Goals as goal

pub returns : goal.returns
returns c =
    let fits : c.slot_of.result < length c.self.inside.free.items = omega (arith, c.slot_of.ensures.within, c.self.invariant.frees) in
    let read = get_or_read c.self.inside.free.items c.slot_of.result _ fits c.index.ensures 0 in
    rw (← c.self.view_is, read, c.slot_of.ensures.slot)
    (all_free c.self.inside.table.value c.self.inside.first.items c.self.invariant.first_is _ c.args.pc (rw c.slot_of.ensures.slot at (c.self.invariant.free_is c.slot_of.result (omega arith) c.slot_of.ensures.within)))
