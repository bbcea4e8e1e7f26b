use Rattle.std.proofs.Common.{◌≡◌, ℕ, ◌≤◌, Bool, cond, ltb, length, Option, Some, None, ap, ◌∙◌, arith, rules, tests, Bor}
use Rattle.std.proofs.lemmas.Bool.Decides.{nat_tests}
use Rattle.std.proofs.lemmas.Iterator.{YieldsList-from_slice}
use Rattle.std.proofs.lemmas.Iterator.Search.{position_from_yields_List}
use Rattle.std.proofs.lemmas.List.Sums.{prefix_len-le-length}
use Rattle.std.specs.List.{position_or_len}
use Rattle.std.specs.Option.{unwrap_or}
use Rattle.cv_base.specs.declared.invariants.Invariant.{Invariant}
use Rattle.cv_histories.specs.Cases.{comes_before}
use Rattle.cv_case.proofs.nearest.place_of.Goals as goal

at_most : (p n : ℕ) → p ≤ n → unwrap_or (cond (ltb p n) (Some p) None) n ≡ p
at_most p n h = grind (arith, nat_tests)

pub returns-clause-place : goal.returns-clause-place
returns-clause-place c =
    let others = c.args.nearest.now in
    let test : Bor Invariant → Bool = λ r. comes_before c.args.site c.args.invariant.now r.now in
    let found : c.position.result ≡ cond (ltb (position_or_len test others) (length others)) (Some (position_or_len test others)) None =
    position_from_yields_List (λ (r : Bor Invariant). comes_before c.args.site c.args.invariant.now r.now) _ _ c.position.result c.position.ensures.ran (YieldsList-from_slice others c.iter.ensures.rest) (λ x b q k. search (rules, tests)) in
    c.unwrap_or.ensures ∙ ap (λ (o : Option ℕ). unwrap_or o (length others)) found ∙ at_most _ _ (prefix_len-le-length _ others)
