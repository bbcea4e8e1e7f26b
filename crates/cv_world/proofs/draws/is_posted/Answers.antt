use Rattle.std.proofs.Common.{◌∙◌, reverse, rules, tests}
use Rattle.std.specs.Prelude.{◌==◌}
use Rattle.std.proofs.lemmas.Iterator.{YieldsList-from_slice}
use Rattle.std.proofs.lemmas.Iterator.Search.{any_from_yields_List}
use Rattle.std.proofs.lemmas.List.Sorted.{IsPermutation-reverse, list_any-IsPermutation}
use Rattle.cv_base.specs.declared.entries.Entry.{Entry}
use Rattle.cv_world.proofs.draws.is_posted.Goals as goal

pub returns : goal.returns
returns c =
    any_from_yields_List (λ (e : Entry). e.run == c.args.number) _ _ _ c.any.ensures.ran (YieldsList-from_slice c.args.history.now cc) (λ x b q k. search (rules, tests))
    ∙ list_any-IsPermutation (λ (e : Entry). e.run == c.args.number) c.args.history.now (reverse c.args.history.now) (IsPermutation-reverse c.args.history.now)
