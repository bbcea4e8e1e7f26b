use Rattle.std.proofs.Common.{◌≡◌, ◌||◌, ◌∙◌, refl, sym, ap, get_or, take, eq-eqb}
use Rattle.std.proofs.lemmas.List.{take_all}
use Rattle.std.proofs.lemmas.List.Folds.{list_any_at, list_any_more}
use Rattle.cv_histories.specs.Scores.{is_enforce_of}
use Rattle.cv_manager.proofs.Enforced.{has_one}
use Rattle.cv_manager.proofs.judging.repair_in.Goals as goal

pub returns-in-Some : goal.returns-in-Some
returns-in-Some c =
    let here = rw (c.as_slice-patch-items.ensures ∙ c.table.view_is) at c.patch-item.is in
    let within = rw (c.as_slice-patch-items.ensures ∙ c.table.view_is) at c.loop-patch-test.true in
    has_one c.args.number c.in-Some.index c.args.table.now
    (list_any_at (is_enforce_of c.args.number c.in-Some.index) c.args.table.now c.loop-patch.patch-index c.patch-item.result within
    (ap (is_enforce_of c.args.number c.in-Some.index) (sym here) ∙ c.in-Some.ensures c.in-Some.index ∙ eq-eqb _ _ refl))

pub loop-patch-preserved : goal.loop-patch-preserved
loop-patch-preserved c = λ j.
    let here = rw (c.as_slice-patch-items.ensures ∙ c.table.view_is) at c.patch-item.is in
    let within = rw (c.as_slice-patch-items.ensures ∙ c.table.view_is) at c.loop-patch-test.true in
    list_any_more (is_enforce_of c.args.number j) c.args.table.now c.loop-patch.patch-index c.patch-item.result within
    ∙ ap (λ b. b || is_enforce_of c.args.number j (get_or c.args.table.now c.loop-patch.patch-index c.patch-item.result)) (c.loop-patch.invariant j)
    ∙ ap (is_enforce_of c.args.number j) (sym here)
    ∙ c.in_default.ensures j

pub returns : goal.returns
returns c = λ one j.
    let past = rw (c.as_slice-patch-items.ensures ∙ c.table.view_is) at c.loop-patch-test.false in
    let whole : take c.loop-patch.patch-index c.args.table.now ≡ c.args.table.now = take_all _ _ past in
    rw whole at (c.loop-patch.invariant j)
