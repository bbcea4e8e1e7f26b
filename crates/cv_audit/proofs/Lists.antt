-- What holds of each item of a list, as a walk through it finds out.
use Rattle.std.proofs.Common.{◌≡◌, ◌<◌, ◌≤◌, ◌+◌, ◌-◌, ℕ, zero, suc, List, [], ◌∷◌, length, drop, get_or, sym, ap, ◌∙◌, subst, drop-cons, arith}
use Rattle.std.proofs.lemmas.List.{get_or-reverse, length-reverse, reverse-reverse}
use Rattle.std.proofs.lemmas.List.Elements.{All-from_recursion}
use Rattle.std.specs.Prelude.{Contains, reverse}
use Rattle.std.specs.List.{AllByRecursion}
use mathlib.Core.List.{reverse_aux}

module _ {X : Type 0} (P : X → Type 0) where
  -- one more item has it
  pub one_less : (G : Type 0) (xs : List X) (i : ℕ) (x : X) → i < length xs → x ≡ get_or xs i x → P x → (AllByRecursion P (drop i xs) → G) → AllByRecursion P (drop (i + 1) xs) → G
  one_less G xs i x within is has left rest =
      let next : i + 1 ≡ suc i = omega arith in
      left (subst (AllByRecursion P) (sym (drop-cons xs i x within)) (subst P is has, subst (λ j. AllByRecursion P (drop j xs)) next rest))

  -- nothing is left
  all_of_none : (xs : List X) (n : ℕ) → length xs ≤ n → AllByRecursion P (drop n xs)
  all_of_none [] zero past = tt
  all_of_none [] (suc n) past = tt
  all_of_none (x ∷ xs) zero past = absurd (omega arith)
  all_of_none (x ∷ xs) (suc n) past = all_of_none xs n (omega arith)

  pub none_left : (G : Type 0) (xs : List X) (n : ℕ) → length xs ≤ n → (AllByRecursion P (drop n xs) → G) → G
  none_left G xs n past left = left (all_of_none xs n past)

  -- it holds of the item at a place
  pub at_place : (xs : List X) (i : ℕ) (x : X) → i < length xs → x ≡ get_or xs i x → AllByRecursion P xs → P x
  at_place xs i x within is all = subst P (sym is) (All-from_recursion P xs all i x within)

  -- the other way round
  turned : (rest done : List X) → AllByRecursion P rest → AllByRecursion P done → AllByRecursion P (reverse_aux rest done)
  turned [] done all so_far = so_far
  turned (x ∷ rest) done all so_far = turned rest (x ∷ done) all.1 (all.0, so_far)

  pub all_reversed : (xs : List X) → AllByRecursion P xs → AllByRecursion P (reverse xs)
  all_reversed xs all = turned xs [] all tt

  pub from_reversed : (xs ys : List X) → ys ≡ reverse xs → AllByRecursion P ys → AllByRecursion P xs
  from_reversed xs ys is all = subst (AllByRecursion P) (reverse-reverse xs) (all_reversed (reverse xs) (subst (AllByRecursion P) is all))

  pub to_reversed : (xs ys : List X) → ys ≡ reverse xs → AllByRecursion P xs → AllByRecursion P ys
  to_reversed xs ys is all = subst (AllByRecursion P) (sym is) (all_reversed xs all)

-- an item of a list is one of it the other way round
pub contained : {X : Type 0} (xs : List X) (i : ℕ) (x : X) → i < length xs → x ≡ get_or xs i x → Contains (reverse xs) x
contained xs i x within is =
    let count = length-reverse xs in
    let place : length xs - 1 - (length xs - 1 - i) ≡ i = omega arith in
    (length xs - 1 - i, omega arith, get_or-reverse xs (length xs - 1 - i) x (omega arith) ∙ ap (λ (k : ℕ). get_or xs k x) place ∙ sym is)
