use Rattle.std.proofs.Common.{◌≡◌, ◌∙◌, ◌++◌, Bool, true, sym, subst}
use Rattle.std.proofs.lemmas.List.Sorted.{IsPermutation-append_comm}
use Rattle.std.specs.Prelude.{if◌then◌else◌}
use Rattle.cv_histories.specs.Seen.{is_observed}
use Rattle.cv_observe.specs.StandsFor.{StandsFor}
use Rattle.cv_manager.proofs.kept.learn_from.Goals as goal

pub returns-then-is_observed-clause-learned : goal.returns-then-is_observed-clause-learned
returns-then-is_observed-clause-learned c before new old run =
    let is : is_observed c.args.entry.now ≡ true = sym c.is_observed.ensures ∙ c.if-is_observed.true in
    let behind = (rw c.unwrap.ensures at c.merge.ensures.merged) before new old (run is) in
    let front = c.summary_in_any_order.ensures c.merge.new.self (before ++ new) (new ++ before) (IsPermutation-append_comm before new) behind in
    subst (λ (b : Bool). StandsFor c.merge.new.self (if b then new ++ before else before)) (sym is) front
