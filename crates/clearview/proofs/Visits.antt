-- What is said of the turn of a posted run.
use Rattle.std.proofs.Common.{◌≡◌, ◌≤◌, ◌+◌, ◌-◌, ◌∙◌, ℕ, Bool, true, false, List, [], ◌∷◌, ◌++◌, length, map, Some, None, sym, ap, subst, arith}
use Rattle.std.specs.Prelude.{codes, cond, option_map, reverse}
use Rattle.std.specs.List.{AllByRecursion, find, range_with_len}
use Rattle.std.proofs.lemmas.List.{reverse-reverse}
use Rattle.std.proofs.lemmas.List.FromFn.{map-range_with_len_more}
use Rattle.std.proofs.lemmas.Option.{same_Some, slice_get_past}
use mathlib.Core.List.{reverse_aux}
use Rattle.cv_base.specs.declared.entries.Entry.{Entry}
use Rattle.cv_base.specs.PlanOf.{PlanOf}
use Rattle.cv_histories.specs.Legal.{IsLegal}
use Rattle.cv_laws.specs.Statements.{IsHonestIn, LegalIsHonest}
use Rattle.cv_replay.specs.ReplayOf.{ReplayOf, said}
use Rattle.cv_replay.specs.Said.{state_before}
use Rattle.cv_runs.specs.PlainRun.{Step}
use Rattle.cv_runs.specs.State.{State, x}
use Rattle.clearview.specs.Replayed.{entry_for, lines_of, numbers, state_lines}

-- ---- the entry of a run

-- what holds of all holds of the one that is found
found_has : {X : Type 0} (P : X → Type 0) (test : X → Bool) (xs : List X) (x : X) → AllByRecursion P xs → find test xs ≡ Some x → P x
found_has P test [] x all is = cc
found_has P test (y ∷ ys) x all is =
    elim (test y) as (λ (b : Bool). cond b (Some y) (find test ys) ≡ Some x → P x) [
      | true ↦ λ e. subst P (same_Some y x e) all.0
      | false ↦ λ e. found_has P test ys x all.1 e
    ] is

turned : {X : Type 0} (P : X → Type 0) (rest done : List X) → AllByRecursion P rest → AllByRecursion P done → AllByRecursion P (reverse_aux rest done)
turned P [] done all so_far = so_far
turned P (x ∷ rest) done all so_far = turned P rest (x ∷ done) all.1 (all.0, so_far)

from_reversed : {X : Type 0} (P : X → Type 0) (xs : List X) → AllByRecursion P (reverse xs) → AllByRecursion P xs
from_reversed P xs all = subst (AllByRecursion P) (reverse-reverse xs) (turned P (reverse xs) [] all tt)

-- the entry of a run in a legal history is honest under its versions
pub honest_for : (plan : PlanOf) (past entries : List Entry) (run : ℕ) (e : Entry) → LegalIsHonest → IsLegal plan past → past ≡ reverse entries → entry_for entries run ≡ Some e → IsHonestIn plan past e
honest_for plan past entries run e law legal is found =
    found_has (IsHonestIn plan past) _ entries e (from_reversed (IsHonestIn plan past) entries (subst (AllByRecursion (IsHonestIn plan past)) is (law plan past legal))) found

-- ---- a turn

-- behind its last turn a run stands nowhere
none_behind : (steps : List Step) (turn : ℕ) → length steps ≤ turn → state_before steps turn ≡ None
none_behind steps turn past = ap (option_map (λ (step : Step). step.before)) (slice_get_past steps turn past)

pub no_turn : (r : ReplayOf) → length (said r) ≤ r.turn → lines_of r ≡ codes "no such turn\n"
unfolding lines_of
no_turn r past = ap (state_lines r) (none_behind (said r) r.turn past)

-- ---- registers

-- one more value
pub more_values : (s : State) (values next : List ℕ) (n v : ℕ) → 1 ≤ n → values ≡ map (x s) (range_with_len 1 (n - 1)) → v ≡ x s n → next ≡ values ++ v ∷ [] → next ≡ map (x s) (range_with_len 1 (n + 1 - 1))
more_values s values next n v some so_far of is =
    let count : n - 1 + 1 ≡ n + 1 - 1 = omega arith in
    is
    ∙ ap (λ (l : List ℕ). l ++ v ∷ []) so_far
    ∙ ap (λ (w : ℕ). map (x s) (range_with_len 1 (n - 1)) ++ w ∷ []) of
    ∙ sym (map-range_with_len_more (x s) 1 (n - 1) n (omega arith))
    ∙ ap (λ (k : ℕ). map (x s) (range_with_len 1 k)) count

-- the values of x1 to x31
pub all_values : (s : State) (values : List ℕ) (n : ℕ) → n ≡ 32 → values ≡ map (x s) (range_with_len 1 (n - 1)) → values ≡ map (x s) numbers
all_values s values n end so_far =
    let count : n - 1 ≡ 31 = omega arith in
    so_far ∙ ap (λ (k : ℕ). map (x s) (range_with_len 1 k)) count
