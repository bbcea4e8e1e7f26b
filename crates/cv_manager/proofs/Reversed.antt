-- Lists read from their other end.
use Rattle.std.proofs.Common.{◌≡◌, ℕ, ◌+◌, ◌<◌, ◌≤◌, Bool, true, false, cond, List, [], ◌∷◌, ◌++◌, ◌∙◌, refl, sym, ap, length, get_or, map, take, arith}
use Rattle.std.proofs.lemmas.List.{append-nil, length-reverse, map-append, reverse-append, take_all, take_more}
use Rattle.std.proofs.lemmas.List.Elements.{filter-append}
use Rattle.std.specs.Prelude.{filter, reverse}

module _ {X : Type 0} where
  pub reverse_cons : (x : X) (xs : List X) → reverse (x ∷ xs) ≡ reverse xs ++ x ∷ []
  reverse_cons x xs = reverse-append (x ∷ []) xs

  pub map_reverse : {Y : Type 0} (f : X → Y) (xs : List X) → map f (reverse xs) ≡ reverse (map f xs)
  map_reverse f [] = refl
  map_reverse f (x ∷ xs) =
      ap (map f) (reverse_cons x xs)
      ∙ map-append f (reverse xs) (x ∷ [])
      ∙ ap (λ ys. ys ++ f x ∷ []) (map_reverse f xs)
      ∙ sym (reverse-append (f x ∷ []) (map f xs))

  module _ (p : X → Bool) where
    reverse_if : (b : Bool) (x : X) (ys : List X) → reverse ys ++ cond b (x ∷ []) [] ≡ reverse (cond b (x ∷ ys) ys)
    reverse_if true x ys = sym (reverse-append (x ∷ []) ys)
    reverse_if false x ys = append-nil (reverse ys)

    pub filter_reverse : (xs : List X) → filter p (reverse xs) ≡ reverse (filter p xs)
    filter_reverse [] = refl
    filter_reverse (x ∷ xs) =
        ap (filter p) (reverse_cons x xs)
        ∙ filter-append p (reverse xs) (x ∷ [])
        ∙ ap (λ ys. ys ++ filter p (x ∷ [])) (filter_reverse xs)
        ∙ reverse_if (p x) x (filter p xs)

    filter_onto : (b : Bool) (x : X) (ys : List X) → p x ≡ b → filter p (ys ++ x ∷ []) ≡ filter p ys ++ cond b (x ∷ []) []
    filter_onto b x ys is = filter-append p ys (x ∷ []) ∙ ap (λ b. filter p ys ++ cond b (x ∷ []) []) is

    -- what passes below a place, with the element at the place
    pub filter_more : (b : Bool) (xs : List X) (i : ℕ) (x : X) → i < length xs → get_or xs i x ≡ x → p x ≡ b → filter p (take (i + 1) xs) ≡ filter p (take i xs) ++ cond b (x ∷ []) []
    filter_more b xs i x within here is = ap (filter p) (take_more xs i x within ∙ ap (λ y. take i xs ++ y ∷ []) here) ∙ filter_onto b x (take i xs) is

  -- the newest first, up to a place, with the element at the place
  pub reverse_more : (xs : List X) (i : ℕ) (x : X) → i < length xs → get_or xs i x ≡ x → reverse (take (i + 1) xs) ≡ x ∷ reverse (take i xs)
  reverse_more xs i x within here = ap reverse (take_more xs i x within ∙ ap (λ y. take i xs ++ y ∷ []) here) ∙ reverse-append (take i xs) (x ∷ [])

  pub below_reverse : (xs : List X) (i n : ℕ) → n ≡ length xs → i < n → i < length (reverse xs)
  below_reverse xs i n long below = omega (arith, length-reverse xs)

  pub whole_reverse : (xs : List X) (i n : ℕ) → n ≡ length xs → n ≤ i → take i (reverse xs) ≡ reverse xs
  whole_reverse xs i n long past = take_all _ _ (omega (arith, length-reverse xs))
