use Rattle.std.proofs.Common.{rules, ◌≡◌, ◌≤◌, ◌<◌, ◌+◌, ◌-◌, [], ◌∙◌, drop, length, get_or, ap, sym, refl, subst, arith}
use Rattle.std.proofs.lemmas.List.{drop_all}
use Rattle.cv_base.specs.declared.patches.Patch.{Patch}
use Rattle.cv_base.specs.Points.{is_point_in}
use Rattle.cv_patch.specs.Indexing.{Finds, slot_at, slot_of}
use Rattle.cv_patch.proofs.InOrder.{comes_from, ends, ends_all, ends_point, goes_on, has_fired_room, has_fired_row, has_room, has_row, past}
use Rattle.cv_patch.proofs.Slots.{goes_to, slot_here}
use Rattle.cv_patch.proofs.indexed.apply_indexed.Goals as goal

-- the patches from the next one of the slot on
next_not : (c : goal.After-next_after-at) → Finds c.patches-patches.result.now (slot_of c.args.core.now.pc) (c.loop-at.at + 1) c.next_after-at.result
next_not c =
    let q = c.index-patches-at.result in
    rw (← c.loop-at.invariant.place q c.loop-at-test.true, c.patches-patches.ensures.patches) (c.next_after-at.ensures q)

next_go : (c : goal.After-next_after-at-in-Go) → Finds c.patches-patches.result.now (slot_of c.args.core.now.pc) (c.loop-at.at + 1) c.next_after-at-in-Go.result
next_go c =
    let q = c.index-patches-at.result in
    rw (← c.loop-at.invariant.place q c.loop-at-test.true, c.patches-patches.ensures.patches) (c.next_after-at-in-Go.ensures q)

pub loop-at-init : goal.loop-at-init
loop-at-init c =
    let items = c.patches-patches.result.now in
    let same = c.patches-patches.ensures.patches in
    let first : Finds items (slot_of c.args.core.now.pc) 0 c.first_at-at.result = rw same c.first_at-at.ensures in
    record {
      comes =
          goes_to (is_point_in c.args.text.base c.args.text.count) c.args.core.now.pc c.args.table.now c.args.core.now c.args.tally.now c.args.fired.now items c.args.core.now c.args.tally.now c.args.fired.now 0 c.first_at-at.result first
          (comes_from _ _ _ _ _ _ items same (rw same c.patches-patches.ensures.table) c.requires.tally_ready c.requires.fired_ready);
      place = λ none within. first.found none within;
    }

pub loop-at-smaller-then-not-stands_at : goal.loop-at-smaller-then-not-stands_at
loop-at-smaller-then-not-stands_at c =
    let n = next_not c in
    omega (arith, n.behind, c.loop-at-test.true)

pub loop-at-preserved-then-not-stands_at : goal.loop-at-preserved-then-not-stands_at
loop-at-preserved-then-not-stands_at c =
    let items = c.patches-patches.result.now in
    let n = next_not c in
    record {
      comes =
          goes_to (is_point_in c.args.text.base c.args.text.count) c.args.core.now.pc c.args.table.now c.args.core.now c.args.tally.now c.args.fired.now items c.loop-at.core c.loop-at.tally c.loop-at.fired (c.loop-at.at + 1) c.next_after-at.result n
          (past items c.loop-at.at c.loop-at-test.true c.index-patches-at.is c.loop-at.invariant.comes (sym c.stands_at.ensures ∙ c.if-not-stands_at.true));
      place = λ none within. n.found none within;
    }

pub loop-at-smaller : goal.loop-at-smaller
loop-at-smaller c =
    let n = next_go c in
    omega (arith, n.behind, c.loop-at-test.true)

pub loop-at-preserved : goal.loop-at-preserved
loop-at-preserved c =
    let items = c.patches-patches.result.now in
    let n = next_go c in
    record {
      comes =
          goes_to (is_point_in c.args.text.base c.args.text.count) c.args.core.now.pc c.args.table.now c.args.core.now c.args.tally.now c.args.fired.now items c.apply_one.new.core c.apply_one.new.tally c.apply_one.new.fired (c.loop-at.at + 1) c.next_after-at-in-Go.result n
          (goes_on items c.loop-at.at c.loop-at-test.true c.index-patches-at.is c.loop-at.invariant.comes
          (sym c.stands_at.ensures ∙ c.if-not-stands_at.false)
          c.apply_one.ensures.core c.apply_one.ensures.applied c.apply_one.ensures.tally c.apply_one.ensures.fired c.in-Go.is);
      place = λ none within. n.found none within;
    }

pub apply_one-requires-clause-tally_row : goal.apply_one-requires-clause-tally_row
apply_one-requires-clause-tally_row c =
    has_row c.patches-patches.result.now c.loop-at.at c.loop-at-test.true c.index-patches-at.is c.loop-at.invariant.comes

pub apply_one-requires-clause-tally_room : goal.apply_one-requires-clause-tally_room
apply_one-requires-clause-tally_room c =
    has_room c.patches-patches.result.now c.loop-at.at c.loop-at-test.true c.index-patches-at.is c.loop-at.invariant.comes
    c.requires.tally_room

pub apply_one-requires-clause-fired_row : goal.apply_one-requires-clause-fired_row
apply_one-requires-clause-fired_row c =
    has_fired_row c.patches-patches.result.now c.loop-at.at c.loop-at-test.true c.index-patches-at.is c.loop-at.invariant.comes

pub apply_one-requires-clause-fired_room : goal.apply_one-requires-clause-fired_room
apply_one-requires-clause-fired_room c =
    has_fired_room c.patches-patches.result.now c.loop-at.at c.loop-at-test.true c.index-patches-at.is c.loop-at.invariant.comes
    c.requires.fired_room

pub returns-in_default : goal.returns-in_default
returns-in_default c =
    let end =
    ends c.patches-patches.result.now c.loop-at.at c.loop-at-test.true c.index-patches-at.is c.loop-at.invariant.comes
    (sym c.stands_at.ensures ∙ c.if-not-stands_at.false)
    c.apply_one.ensures.core c.apply_one.ensures.applied c.apply_one.ensures.tally c.apply_one.ensures.fired c.in_default.not-Go in
    record {
      core = end.core;
      applied = end.applied;
      tally = end.tallied;
      fired = end.counted;
      point = ends_point end c.requires.point;
    }

pub returns : goal.returns
returns c =
    let none : drop c.loop-at.at c.patches-patches.result.now ≡ [] = drop_all _ _ c.loop-at-test.false in
    let end = ends_all _ _ _ _ _ _ _ _ _ (rw none at c.loop-at.invariant.comes) in
    record {
      core = end.core;
      applied = end.applied;
      tally = end.tallied;
      fired = end.counted;
      point = ends_point end c.requires.point;
    }
