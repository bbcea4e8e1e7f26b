use Rattle.std.proofs.Common.{rules, ◌≡◌, ◌<◌, ◌≤◌, ◌+◌, ◌-◌, ◌∙◌, length, get_or, set, ap, sym, subst, arith}
use Rattle.std.proofs.lemmas.List.{get_or_read}
use Rattle.cv_patch.specs.Indexing.{Finds, FindsFirst, FindsNext, slot_of}
use Rattle.cv_patch.proofs.Slots.{first_none, first_on, next_none, next_on}
use Rattle.cv_patch.proofs.indexed.chain.Goals as goal

pub loop-at-preserved : goal.loop-at-preserved
loop-at-preserved c =
    let items = c.args.patches.now in
    let at = c.loop-at.at - 1 in
    let i = c.loop-at.invariant in
    let slot = c.slot_of-slot.result in
    let more : c.loop-at.at ≡ at + 1 = omega (arith, c.loop-at-test.true) in
    let low : at < length items = omega (arith, c.loop-at-test.true, i.within) in
    let slot_is = c.slot_of-slot.ensures.slot ∙ ap slot_of c.point_of_patch.ensures in
    let firsts : FindsFirst items c.loop-at.first.items (at + 1) = subst (FindsFirst items c.loop-at.first.items) more i.firsts in
    let nexts : FindsNext items c.loop-at.next.items (at + 1) = subst (FindsNext items c.loop-at.next.items) more i.nexts in
    let fits : slot < length c.loop-at.first.items = omega (arith, i.slots, c.slot_of-slot.ensures.within) in
    let read = get_or_read c.loop-at.first.items slot _ fits c.index.ensures 0 in
    let here : Finds items slot (at + 1) c.index.result.now = rw read (firsts slot c.slot_of-slot.ensures.within) in
    record {
      within = omega (arith, i.within);
      slots = search rules;
      places = search rules;
      firsts = first_on items at c.index-patches-at.result low c.index-patches-at.is slot slot_is c.loop-at.first.items i.slots c.slot_of-slot.ensures.within firsts;
      nexts = next_on items at c.index-patches-at.result low c.index-patches-at.is slot slot_is c.loop-at.next.items c.index.result.now i.places here nexts;
    }

pub returns-clause-next : goal.returns-clause-next
returns-clause-next c =
    let none : c.loop-at.at ≡ 0 = omega (arith, c.loop-at-test.false) in
    subst (FindsNext c.args.patches.now c.loop-at.next.items) none c.loop-at.invariant.nexts
