-- Beginnings of one list, and the longer of two.
use Rattle.std.proofs.Common.{◌≡◌, ◌≤◌, ◌⊎◌, List, [], ◌∷◌, ◌++◌, length, inl, inr, ⊎_elim, refl, sym, ap, ◌∙◌, subst, arith, append_assoc, length-append}
use Rattle.std.specs.List.{AllByRecursion}
use mathlib.Core.List.{IsPrefix}
use Rattle.cv_rule.specs.Counts.{longer}

module _ {A : Type 0} where
  pub prefix_self : (xs : List A) → IsPrefix xs xs
  prefix_self [] = ([], refl)
  prefix_self (x ∷ xs) = ((prefix_self xs).0, ap (λ ys. x ∷ ys) (prefix_self xs).1)

  pub prefix_append : (xs ys : List A) → IsPrefix xs (xs ++ ys)
  prefix_append xs ys = (ys, refl)

  pub prefix_trans : (xs ys zs : List A) → IsPrefix xs ys → IsPrefix ys zs → IsPrefix xs zs
  prefix_trans xs ys zs p q = (p.0 ++ q.0, sym (append_assoc xs p.0 q.0) ∙ (ap (λ w. w ++ q.0) p.1 ∙ q.1))

  pub prefix_length : (xs ys : List A) → IsPrefix xs ys → length xs ≤ length ys
  prefix_length xs ys p = omega (arith, sym (ap length p.1) ∙ length-append xs p.0)

  -- of two beginnings of one list the longer one is one of them, and both begin it
  pub longer_one : (xs ys zs : List A) → IsPrefix xs zs → IsPrefix ys zs → (longer xs ys ≡ xs) ⊎ (longer xs ys ≡ ys)
  longer_one [] ys zs p q = inr refl
  longer_one (x ∷ xs) [] zs p q = inl refl
  longer_one (x ∷ xs) (y ∷ ys) [] p q = absurd (cc (p.1))
  longer_one (x ∷ xs) (y ∷ ys) (z ∷ zs) p q =
      let heads : x ≡ y = cc (p.1, q.1) in
      ⊎_elim
      (λ e. inl (ap (λ l. x ∷ l) e))
      (λ e. inr (cc (heads, e)))
      (longer_one xs ys zs (p.0, cc (p.1)) (q.0, cc (q.1)))

  pub longer_begins : (xs ys zs : List A) → IsPrefix xs zs → IsPrefix ys zs → IsPrefix (longer xs ys) zs
  longer_begins xs ys zs p q =
      ⊎_elim (λ e. subst (λ l. IsPrefix l zs) (sym e) p) (λ e. subst (λ l. IsPrefix l zs) (sym e) q) (longer_one xs ys zs p q)

  pub begins_longer : (xs ys : List A) → IsPrefix xs (longer xs ys)
  begins_longer [] ys = (ys, refl)
  begins_longer (x ∷ xs) [] = prefix_self (x ∷ xs)
  begins_longer (x ∷ xs) (y ∷ ys) = ((begins_longer xs ys).0, ap (λ l. x ∷ l) (begins_longer xs ys).1)

  pub also_begins_longer : (xs ys zs : List A) → IsPrefix xs zs → IsPrefix ys zs → IsPrefix ys (longer xs ys)
  also_begins_longer [] ys zs p q = prefix_self ys
  also_begins_longer (x ∷ xs) [] zs p q = (x ∷ xs, refl)
  also_begins_longer (x ∷ xs) (y ∷ ys) [] p q = absurd (cc (p.1))
  also_begins_longer (x ∷ xs) (y ∷ ys) (z ∷ zs) p q =
      let heads : y ≡ x = cc (p.1, q.1) in
      let rest = also_begins_longer xs ys zs (p.0, cc (p.1)) (q.0, cc (q.1)) in
      (rest.0, cc (heads, rest.1))

  -- the whole list is the longer one
  pub longer_whole : (xs ys : List A) → IsPrefix ys xs → longer xs ys ≡ xs
  longer_whole [] [] p = refl
  longer_whole [] (y ∷ ys) p = absurd (cc (p.1))
  longer_whole (x ∷ xs) [] p = refl
  longer_whole (x ∷ xs) (y ∷ ys) p = ap (λ l. x ∷ l) (longer_whole xs ys (p.0, cc (p.1)))

  -- ---- what holds of each

  pub all_more : (P Q : A → Type 0) → ((x : A) → P x → Q x) → (xs : List A) → AllByRecursion P xs → AllByRecursion Q xs
  all_more P Q step [] all = tt
  all_more P Q step (x ∷ xs) all = (step x all.0, all_more P Q step xs all.1)

  pub all_append : (P : A → Type 0) (xs ys : List A) → AllByRecursion P xs → AllByRecursion P ys → AllByRecursion P (xs ++ ys)
  all_append P [] ys all more = more
  all_append P (x ∷ xs) ys all more = (all.0, all_append P xs ys all.1 more)
