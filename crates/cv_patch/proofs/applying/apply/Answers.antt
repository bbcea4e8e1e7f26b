use Rattle.std.proofs.Common.{rules, ◌≡◌, [], ◌∙◌, drop, sym}
use Rattle.std.proofs.lemmas.List.{drop_all}
use Rattle.cv_patch.proofs.InOrder.{comes_from, ends, ends_all, ends_point, goes_on, has_fired_room, has_fired_row, has_room, has_row, past}
use Rattle.cv_patch.proofs.applying.apply.Goals as goal

pub loop-patch-init : goal.loop-patch-init
loop-patch-init c =
    let items = c.as_slice-patch-items.result.now in
    comes_from _ _ _ _ _ _ items (search rules) (search rules) c.requires.tally_ready c.requires.fired_ready

pub loop-patch-preserved-then-not-stands_at : goal.loop-patch-preserved-then-not-stands_at
loop-patch-preserved-then-not-stands_at c =
    past c.as_slice-patch-items.result.now c.loop-patch.patch-index c.loop-patch-test.true c.patch-item.is c.loop-patch.invariant
    (sym c.stands_at.ensures ∙ c.if-not-stands_at.true)

pub apply_one-requires-clause-tally_row : goal.apply_one-requires-clause-tally_row
apply_one-requires-clause-tally_row c =
    has_row c.as_slice-patch-items.result.now c.loop-patch.patch-index c.loop-patch-test.true c.patch-item.is c.loop-patch.invariant

pub apply_one-requires-clause-tally_room : goal.apply_one-requires-clause-tally_room
apply_one-requires-clause-tally_room c =
    has_room c.as_slice-patch-items.result.now c.loop-patch.patch-index c.loop-patch-test.true c.patch-item.is c.loop-patch.invariant
    c.requires.tally_room

pub apply_one-requires-clause-fired_row : goal.apply_one-requires-clause-fired_row
apply_one-requires-clause-fired_row c =
    has_fired_row c.as_slice-patch-items.result.now c.loop-patch.patch-index c.loop-patch-test.true c.patch-item.is c.loop-patch.invariant

pub apply_one-requires-clause-fired_room : goal.apply_one-requires-clause-fired_room
apply_one-requires-clause-fired_room c =
    has_fired_room c.as_slice-patch-items.result.now c.loop-patch.patch-index c.loop-patch-test.true c.patch-item.is c.loop-patch.invariant
    c.requires.fired_room

pub loop-patch-preserved : goal.loop-patch-preserved
loop-patch-preserved c =
    goes_on c.as_slice-patch-items.result.now c.loop-patch.patch-index c.loop-patch-test.true c.patch-item.is c.loop-patch.invariant
    (sym c.stands_at.ensures ∙ c.if-not-stands_at.false)
    c.apply_one.ensures.core c.apply_one.ensures.applied c.apply_one.ensures.tally c.apply_one.ensures.fired c.in-Go.is

pub returns-in_default : goal.returns-in_default
returns-in_default c =
    let end =
    ends c.as_slice-patch-items.result.now c.loop-patch.patch-index c.loop-patch-test.true c.patch-item.is c.loop-patch.invariant
    (sym c.stands_at.ensures ∙ c.if-not-stands_at.false)
    c.apply_one.ensures.core c.apply_one.ensures.applied c.apply_one.ensures.tally c.apply_one.ensures.fired c.in_default.not-Go in
    record {
      core = end.core;
      applied = end.applied;
      tally = end.tallied;
      fired = end.counted;
      point = ends_point end c.requires.point;
    }

pub returns : goal.returns
returns c =
    let none : drop c.loop-patch.patch-index c.as_slice-patch-items.result.now ≡ [] = drop_all _ _ c.loop-patch-test.false in
    let end = ends_all _ _ _ _ _ _ _ _ _ (rw none at c.loop-patch.invariant) in
    record {
      core = end.core;
      applied = end.applied;
      tally = end.tallied;
      fired = end.counted;
      point = ends_point end c.requires.point;
    }
