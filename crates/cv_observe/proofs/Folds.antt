-- A fold whose steps may change places gives the same of a list in any order.
use Rattle.std.proofs.Common.{◌≡◌, ℕ, zero, suc, ◌<◌, Bool, true, false, cond, List, [], ◌∷◌, ◌∙◌, refl, sym, ap, fold, length, get_or, set, ⊎_elim, arith}
use Rattle.std.proofs.lemmas.Bool.{cases_lt, cases_eq}
use Rattle.std.proofs.lemmas.List.{set_comm, set-get_or}
use Rattle.std.proofs.lemmas.List.Sorted.{IsPermutation-keeps}
use Rattle.std.specs.List.{filter, swap}
use Rattle.std.specs.List.Sorted.{IsPermutation}

module _ {X B : Type 0} (f : B → X → B) (flips : (s : B) (a b : X) → f (f s a) b ≡ f (f s b) a) where
  -- the first element in the place of another one
  fold_front : (s : B) (x : X) (xs : List X) (k : ℕ) (d : X) → k < length xs → fold f s (get_or xs k d ∷ set xs k x) ≡ fold f s (x ∷ xs)
  fold_front s x [] k d h = absurd (omega arith)
  fold_front s x (y ∷ ys) zero d h = ap (λ t. fold f t ys) (flips s y x)
  fold_front s x (y ∷ ys) (suc k) d h =
      let g = get_or ys k d in
      ap (λ t. fold f t (set ys k x)) (flips s g y)
      ∙ fold_front (f s y) x ys k d (omega arith)
      ∙ ap (λ t. fold f t ys) (flips s y x)

  fold_two : (s : B) (xs : List X) (i j : ℕ) (d : X) → i < j → j < length xs → fold f s (set (set xs i (get_or xs j d)) j (get_or xs i d)) ≡ fold f s xs
  fold_two s [] i j d h within = absurd (omega arith)
  fold_two s (x ∷ xs) i zero d h within = absurd (omega arith)
  fold_two s (x ∷ xs) zero (suc j) d h within = fold_front s x xs j d (omega arith)
  fold_two s (x ∷ xs) (suc i) (suc j) d h within = fold_two (f s x) xs i j d (omega arith) (omega arith)

  fold_any : (s : B) (xs : List X) (i j : ℕ) (d : X) → i < length xs → j < length xs → fold f s (set (set xs i (get_or xs j d)) j (get_or xs i d)) ≡ fold f s xs
  fold_any s xs i j d hi hj =
      ⊎_elim
      (λ up. fold_two s xs i j d up hj)
      (λ down. ⊎_elim
      (λ same. rw same (ap (λ t. fold f s (set t j (get_or xs j d))) (set-get_or xs j d) ∙ ap (fold f s) (set-get_or xs j d)))
      (λ other.
      let low : j < i = omega arith in
      ap (fold f s) (set_comm xs i j (get_or xs j d) (get_or xs i d) other) ∙ fold_two s xs j i d low hi)
      (cases_eq i j))
      (cases_lt i j)

  fold_swap : (s : B) (xs : List X) (i j : ℕ) → i < length xs → j < length xs → fold f s (swap xs i j) ≡ fold f s xs
  fold_swap s [] i j hi hj = absurd (omega arith)
  fold_swap s (x ∷ xs) i j hi hj = fold_any s (x ∷ xs) i j x hi hj

  pub fold-IsPermutation : (s : B) (xs ys : List X) → IsPermutation xs ys → fold f s ys ≡ fold f s xs
  fold-IsPermutation s xs ys =
      IsPermutation-keeps xs (λ l. fold f s l ≡ fold f s xs) refl (λ l i j hi hj same. fold_swap s l i j hi hj ∙ same) ys

-- a fold over what passes a test
module _ {X B : Type 0} (test : X → Bool) (f : B → X → B) where
  abbrev pub passing : B → X → B
  passing s x = cond (test x) (f s x) s

  taken : (b : Bool) (s : B) (x : X) (xs : List X) → fold f s (cond b (x ∷ xs) xs) ≡ fold f (cond b (f s x) s) xs
  taken true s x xs = refl
  taken false s x xs = refl

  fold-filter : (s : B) (xs : List X) → fold f s (filter test xs) ≡ fold passing s xs
  fold-filter s [] = refl
  fold-filter s (x ∷ xs) =
      taken (test x) s x (filter test xs) ∙ fold-filter (passing s x) xs

  module _ (flips : (s : B) (a b : X) → f (f s a) b ≡ f (f s b) a) where
    chosen : (p q : Bool) (s : B) (a b : X) → cond q (f (cond p (f s a) s) b) (cond p (f s a) s) ≡ cond p (f (cond q (f s b) s) a) (cond q (f s b) s)
    chosen true true s a b = flips s a b
    chosen true false s a b = refl
    chosen false true s a b = refl
    chosen false false s a b = refl

    passing_flips : (s : B) (a b : X) → passing (passing s a) b ≡ passing (passing s b) a
    passing_flips s a b = chosen (test a) (test b) s a b

    -- what passes, in any order
    pub fold-passing : (s : B) (xs ys : List X) → IsPermutation xs ys → fold f s (filter test xs) ≡ fold f s (filter test ys)
    fold-passing s xs ys same =
        fold-filter s xs ∙ sym (fold-IsPermutation passing passing_flips s xs ys same) ∙ sym (fold-filter s ys)
