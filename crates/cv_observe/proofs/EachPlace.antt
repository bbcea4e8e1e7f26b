-- A list each of whose elements is changed at its place, from the first on.
use Rattle.std.proofs.Common.{◌≡◌, ◌≢◌, ℕ, suc, ◌+◌, ◌<◌, ◌≤◌, List, [], ◌∷◌, ◌++◌, ◌∙◌, refl, sym, ap, subst, length, get_or, set, map, get_or-set_other, get_or-set_same, ⊎_elim, arith}
use Rattle.std.proofs.Math.Seq.{get_or-append_seam}
use Rattle.std.proofs.lemmas.Bool.{cases_lt}
use Rattle.std.proofs.lemmas.List.{get_or_append_left, get_or_default, get_or-map, length-map, length-set}

-- the elements of old below n are changed as R says, and the others are left
pub record Each {X : Type 0} (R : ℕ → X → X → Type 0) (old : List X) (n : ℕ) (new : List X) : Type 0 where
  pub length : length new ≡ length old
  pub done : (x : ℕ) → x < n → (d : X) → R x (get_or old x d) (get_or new x d)
  pub left : (x : ℕ) → n ≤ x → (d : X) → get_or new x d ≡ get_or old x d

module _ {X : Type 0} (R : ℕ → X → X → Type 0) (old : List X) where
  pub each_none : Each R old 0 old
  each_none = record { length = refl; done = λ x h d. absurd (omega arith); left = λ x h d. refl }

  pub each_more : (n : ℕ) (new : List X) (e y : X) → n < length new → Each R old n new → R n (get_or new n e) y → Each R old (n + 1) (set new n y)
  each_more n new e y within each changed = record {
    length = length-set new n y ∙ each.length;
    done = λ x h d.
        ⊎_elim
        (λ low. let ne : x ≢ n = omega arith in subst (λ b. R x (get_or old x d) b) (sym (get_or-set_other new n x y d ne)) (each.done x low d))
        (λ high.
        let same : n ≡ x = omega arith in
        let here : get_or new n e ≡ get_or old n d = get_or_default new n e d within ∙ each.left n (omega arith) d in
        subst (λ k. R k (get_or old k d) (get_or (set new n y) k d)) same
        (subst (λ b. R n (get_or old n d) b) (sym (get_or-set_same new n y d within)) (subst (λ a. R n a y) here changed)))
        (cases_lt x n);
    left = λ x h d. let ne : x ≢ n = omega arith in get_or-set_other new n x y d ne ∙ each.left x (omega arith) d;
  }

  pub each_all : (n : ℕ) (new : List X) → length new ≤ n → Each R old n new → (x : ℕ) (d : X) → x < length old → R x (get_or old x d) (get_or new x d)
  each_all n new end each x d within = let e = each.length in each.done x (omega arith) d

-- where a part of each element stays, so does the list of these parts
pub parts_stay : {X Y : Type 0} (part : X → Y) (old new : List X) → length new ≡ length old → ((x : ℕ) (d : X) → x < length old → part (get_or new x d) ≡ part (get_or old x d)) → map part new ≡ map part old
parts_stay part [] [] same stays = refl
parts_stay part [] (y ∷ ys) same stays = absurd (omega arith)
parts_stay part (x ∷ xs) [] same stays = absurd (omega arith)
parts_stay part (x ∷ xs) (y ∷ ys) same stays =
    ap (λ h. h ∷ map part ys) (stays 0 x (omega arith))
    ∙ ap (λ t. part x ∷ t) (parts_stay part xs ys (omega arith) (λ k d h. stays (suc k) d (omega arith)))

part_at : {X Y : Type 0} (part : X → Y) (xs : List X) (i : ℕ) (d e : X) → i < length xs → get_or (map part xs) i (part e) ≡ part (get_or xs i d)
part_at part xs i d e within = get_or-map part xs i d (part e) within

-- where the lists of parts are the same, so is the part at a place
pub same_part : {X Y : Type 0} (part : X → Y) (xs ys : List X) → map part xs ≡ map part ys → (i : ℕ) (d e : X) → i < length xs → part (get_or xs i d) ≡ part (get_or ys i e)
same_part part xs ys same i d e within =
    let long : length xs ≡ length ys = sym (length-map xs part) ∙ ap length same ∙ length-map ys part in
    sym (part_at part xs i d d within) ∙ ap (λ l. get_or l i (part d)) same ∙ part_at part ys i e d (omega arith)

-- a list with one more element
pub each_pushed : {X : Type 0} (P : ℕ → X → Type 0) (n : ℕ) (list new : List X) (y : X) → length list ≡ n → new ≡ list ++ y ∷ [] → ((k : ℕ) (d : X) → k < n → P k (get_or list k d)) → P n y → (k : ℕ) (d : X) → k < n + 1 → P k (get_or new k d)
each_pushed P n list new y long pushed all one k d within =
    subst (λ l. P k (get_or l k d)) (sym pushed)
    (⊎_elim
    (λ low. subst (P k) (sym (get_or_append_left list (y ∷ []) d k (omega arith))) (all k d low))
    (λ high.
    let last : k ≡ length list = omega arith in
    subst (λ i. P i (get_or (list ++ y ∷ []) i d)) (sym last) (subst (P (length list)) (sym (get_or-append_seam list y [] d)) (subst (λ i. P i y) (sym long) one)))
    (cases_lt k n))
