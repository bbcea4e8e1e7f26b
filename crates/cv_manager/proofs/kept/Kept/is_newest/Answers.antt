use Rattle.std.proofs.Common.{◌≤◌, ◌∙◌, length, sym, ap, arith}
use Rattle.std.specs.Prelude.{map}
use Rattle.std.proofs.lemmas.List.{length-map}
use Rattle.cv_histories.specs.Versions.{same_table}
use Rattle.cv_manager.specs.Kept.{past_of}
use Rattle.cv_manager.proofs.Sizes.{some_version}
use Rattle.cv_manager.proofs.LastTable.{newest_is}
use Rattle.cv_manager.proofs.kept.Kept.is_newest.Goals as goal

pub unreachable-requires : goal.unreachable-requires
unreachable-requires c =
    let k = c.args.self.now in
    let none : length c.as_slice.result.now ≤ 0 = c.in-None.ensures.item.3 in
    let long = sym (length-map k.versions.items (λ t. t.value)) ∙ ap length c.requires.versions in
    omega (arith, ap length c.as_slice.ensures.value, long, some_version k.plan (past_of k))

pub returns : goal.returns
returns c =
    c.same_table.ensures
    ∙ ap (same_table c.args.table.now)
    (c.deref.ensures
    ∙ newest_is (λ t. t.value) c.as_slice.result.now _ (ap (map (λ t. t.value)) c.as_slice.ensures.value ∙ c.requires.versions) c.in-Some.newest.now c.in-Some.ensures.value)
