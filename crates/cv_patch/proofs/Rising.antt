-- Lists whose elements rise by a strict order; two with the same elements are equal.
use Rattle.std.proofs.Common.{◌≡◌, ℕ, ◌<◌, ⊎_elim, List, [], ◌∷◌, ◌++◌, map, refl, sym, ◌∙◌, subst, suc, arith}
use Rattle.std.proofs.lemmas.List.Elements.{recursion_from_All}
use Rattle.std.specs.List.{AllByRecursion, AllPairs, flat_map}
use Rattle.cv_patch.proofs.Standing.{In, All-at, All-standing, All-joined, All-mapped}

module _ {X : Type 0} (R : X → X → Type 0) where
  abbrev pub Rising : List X → Type 0
  Rising [] = Unit {0}
  Rising (x ∷ xs) = AllByRecursion (R x) xs × Rising xs

  pub Rising-from_pairs : (xs : List X) → AllPairs R xs → Rising xs
  Rising-from_pairs [] pairs = tt
  Rising-from_pairs (x ∷ xs) pairs =
      (recursion_from_All (R x) xs (λ k d below. pairs 0 (suc k) d (omega arith) (omega arith)), Rising-from_pairs xs (λ i j d before below. pairs (suc i) (suc j) d (omega arith) (omega arith)))

  pub Rising-joined : (xs ys : List X) → Rising xs → Rising ys → AllByRecursion (λ x. AllByRecursion (R x) ys) xs → Rising (xs ++ ys)
  Rising-joined [] ys first rest across = rest
  Rising-joined (x ∷ xs) ys first rest across =
      (All-joined (R x) xs ys first.0 across.0, Rising-joined xs ys first.1 rest across.1)

  module _ (strict : (x y : X) → R x y → R y x → ⊥) where
    heads_same : (x y : X) (xs ys : List X) → Rising (x ∷ xs) → Rising (y ∷ ys) → In x (y ∷ ys) → In y (x ∷ xs) → x ≡ y
    heads_same x y xs ys up up' there there' =
        ⊎_elim
        (λ e. e)
        (λ behind. ⊎_elim (λ e. sym e) (λ behind'. absurd (strict x y (All-at (R x) y xs up.0 behind') (All-at (R y) x ys up'.0 behind))) there')
        there

    -- the elements behind the first are those of the other list behind its first
    behind_first : (x y : X) (xs ys : List X) → x ≡ y → AllByRecursion (R x) xs → AllByRecursion (λ z. In z (y ∷ ys)) xs → AllByRecursion (λ z. In z ys) xs
    behind_first x y xs ys e up all =
        All-standing (λ z. In z ys) xs
        (λ z there.
        let above : R x z = All-at (R x) z xs up there in
        ⊎_elim
        (λ same. let itself : R x x = subst (R x) (same ∙ sym e) above in absurd (strict x x itself itself))
        (λ behind. behind)
        (All-at (λ w. In w (y ∷ ys)) z xs all there))

    pub same_members : (xs ys : List X) → Rising xs → Rising ys → AllByRecursion (λ x. In x ys) xs → AllByRecursion (λ y. In y xs) ys → xs ≡ ys
    same_members [] [] up up' there there' = refl
    same_members [] (y ∷ ys) up up' there there' = absurd there'.0
    same_members (x ∷ xs) [] up up' there there' = absurd there.0
    same_members (x ∷ xs) (y ∷ ys) up up' there there' =
        let e : x ≡ y = heads_same x y xs ys up up' there.0 there'.0 in
        let rest : xs ≡ ys = same_members xs ys up.1 up'.1 (behind_first x y xs ys e up.0 there.1) (behind_first y x ys xs (sym e) up'.0 there'.1) in
        λ i. e i ∷ rest i

-- what rising numbers are mapped to
module _ {X : Type 0} (R : X → X → Type 0) where
  pub Rising-mapped : (f : ℕ → X) → ((a b : ℕ) → a < b → R (f a) (f b)) → (keys : List ℕ) → Rising ◌<◌ keys → Rising R (map f keys)
  Rising-mapped f keeps [] up = tt
  Rising-mapped f keeps (k ∷ keys) up =
      (All-mapped (R (f k)) f keys (All-standing (λ a. R (f k) (f a)) keys (λ a there. keeps k a (All-at (λ b. k < b) a keys up.0 there))), Rising-mapped f keeps keys up.1)

  -- lists that rise, joined; where a is below b each element of the one is before each of the other
  pub Rising-flat_map : (f : ℕ → List X) → ((a : ℕ) → Rising R (f a)) → ((a b : ℕ) → a < b → AllByRecursion (λ x. AllByRecursion (R x) (f b)) (f a)) → (keys : List ℕ) → Rising ◌<◌ keys → Rising R (flat_map f keys)
  Rising-flat_map f each across [] up = tt
  Rising-flat_map f each across (k ∷ keys) up =
      Rising-joined R (f k) (flat_map f keys) (each k) (Rising-flat_map f each across keys up.1) (past keys up.0)
    where
      past : (others : List ℕ) → AllByRecursion (λ b. k < b) others → AllByRecursion (λ x. AllByRecursion (R x) (flat_map f others)) (f k)
      past [] above = All-standing (λ x. Unit {0}) (f k) (λ x there. tt)
      past (b ∷ others) above =
          All-standing (λ x. AllByRecursion (R x) (flat_map f (b ∷ others))) (f k)
          (λ x there. All-joined (R x) (f b) (flat_map f others) (All-at (λ z. AllByRecursion (R z) (f b)) x (f k) (across k b above.0) there) (All-at (λ z. AllByRecursion (R z) (flat_map f others)) x (f k) (past others above.1) there))
