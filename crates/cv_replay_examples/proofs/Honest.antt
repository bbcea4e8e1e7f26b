-- The entry of a run in a legal history is honest under the history's versions.
use Rattle.std.proofs.Common.{◌≡◌, ℕ, Bool, true, false, List, [], ◌∷◌, Some, None, sym, subst}
use Rattle.std.specs.Prelude.{cond, reverse}
use Rattle.std.specs.List.{AllByRecursion, find}
use Rattle.std.proofs.lemmas.Option.{same_Some}
use mathlib.Core.List.{reverse_aux}
use Rattle.cv_base.specs.declared.entries.Entry.{Entry}
use Rattle.cv_base.specs.PlanOf.{PlanOf}
use Rattle.cv_histories.specs.Legal.{IsLegal}
use Rattle.cv_laws.specs.Statements.{IsHonestIn, LegalIsHonest}
use Rattle.cv_replay_examples.specs.Entries.{entry_for}

-- what holds of all holds of the one that is found
found_has : {X : Type 0} (P : X → Type 0) (test : X → Bool) (xs : List X) (x : X) → AllByRecursion P xs → find test xs ≡ Some x → P x
found_has P test [] x all is = cc
found_has P test (y ∷ ys) x all is =
    elim (test y) as (λ (b : Bool). cond b (Some y) (find test ys) ≡ Some x → P x) [
      | true ↦ λ e. subst P (same_Some y x e) all.0
      | false ↦ λ e. found_has P test ys x all.1 e
    ] is

turned : {X : Type 0} (P : X → Type 0) (rest done : List X) → AllByRecursion P rest → AllByRecursion P done → AllByRecursion P (reverse_aux rest done)
turned P [] done all so_far = so_far
turned P (x ∷ rest) done all so_far = turned P rest (x ∷ done) all.1 (all.0, so_far)

pub honest_in_order : (plan : PlanOf) (past entries : List Entry) (run : ℕ) (e : Entry) → LegalIsHonest → IsLegal plan past → entries ≡ reverse past → entry_for entries run ≡ Some e → IsHonestIn plan past e
honest_in_order plan past entries run e law legal is found =
    let in_order : AllByRecursion (IsHonestIn plan past) entries =
    subst (AllByRecursion (IsHonestIn plan past)) (sym is) (turned (IsHonestIn plan past) past [] (law plan past legal) tt) in
    found_has (IsHonestIn plan past) _ entries e in_order found
