-- A few distinct numbers with one more, and with those of another few.
use Rattle.std.proofs.Common.{◌≡◌, ℕ, suc, ◌+◌, ◌<◌, ◌≤◌, Bool, true, false, List, [], ◌∷◌, ◌++◌, ◌∙◌, refl, sym, ap, fold, length, get_or, take, drop, drop-cons, append_assoc, append-nil, subst, arith}
use Rattle.std.proofs.lemmas.List.{drop_all, take_all, take_more, take-append-drop}
use Rattle.std.proofs.lemmas.List.Edits.{length-insert}
use Rattle.std.proofs.lemmas.List.Sums.{fold-append}
use Rattle.std.specs.List.{insert}
use Rattle.cv_runs.specs.Learned.{distinct}
use Rattle.cv_observe.proofs.Insertions.{put, before, there, behind, three, put_first, distinct-append}
use Rattle.cv_observe.specs.Kept.{IsFew}

-- the place of a number

abbrev pub walked : List ℕ → ℕ → ℕ → Type 0
walked xs v i = put xs v ≡ take i xs ++ put (drop i xs) v

pub walked_first : (xs : List ℕ) (v : ℕ) → walked xs v 0
walked_first xs v = refl

module _ (xs : List ℕ) (v i : ℕ) (within : i < length xs) (far : walked xs v i) where
  rest : drop i xs ≡ get_or xs i 0 ∷ drop (suc i) xs
  rest = drop-cons xs i 0 within

  next : suc i ≡ i + 1
  next = omega arith

  pub walked_on : get_or xs i 0 < v → walked xs v (i + 1)
  walked_on low =
      far
      ∙ ap (λ l. take i xs ++ put l v) rest
      ∙ ap (λ l. take i xs ++ l) (behind v (get_or xs i 0) (drop (suc i) xs) low)
      ∙ sym (append_assoc (take i xs) (get_or xs i 0 ∷ []) (put (drop (suc i) xs) v))
      ∙ ap (λ l. l ++ put (drop (suc i) xs) v) (sym (take_more xs i 0 within))
      ∙ ap (λ k. take (i + 1) xs ++ put (drop k xs) v) next

  back : take i xs ++ (get_or xs i 0 ∷ drop (suc i) xs) ≡ xs
  back = ap (λ l. take i xs ++ l) (sym rest) ∙ take-append-drop i xs

  pub walked_there : v ≡ get_or xs i 0 → put xs v ≡ xs
  walked_there same =
      far
      ∙ ap (λ l. take i xs ++ put l v) rest
      ∙ ap (λ l. take i xs ++ l) (there v (get_or xs i 0) (drop (suc i) xs) same)
      ∙ back

  pub walked_before : v < get_or xs i 0 → put xs v ≡ insert xs i v
  walked_before low =
      far
      ∙ ap (λ l. take i xs ++ put l v) rest
      ∙ ap (λ l. take i xs ++ l) (before v (get_or xs i 0) (drop (suc i) xs) low)
      ∙ ap (λ l. take i xs ++ v ∷ l) (sym rest)

pub walked_end : (xs : List ℕ) (v i : ℕ) → i ≡ length xs → walked xs v i → put xs v ≡ insert xs i v
walked_end xs v i end far =
    let none : drop i xs ≡ [] = drop_all i xs (omega arith) in
    far ∙ ap (λ l. take i xs ++ put l v) none ∙ ap (λ l. take i xs ++ v ∷ l) (sym none)

-- lengths

put_longer : (xs : List ℕ) (k : ℕ) → length xs ≤ length (put xs k)
put_longer [] k = omega arith
put_longer (x ∷ xs) k =
    three (length (x ∷ xs) ≤ length (put (x ∷ xs) k)) k x
    (λ e. rw (before k x xs e) (omega arith))
    (λ e. rw (there k x xs e) (omega arith))
    (λ e. let h = put_longer xs k in rw (behind k x xs e) (omega arith))

fold_longer : (keys xs : List ℕ) → length keys ≤ length (fold put keys xs)
fold_longer keys [] = omega arith
fold_longer keys (x ∷ xs) =
    let h = put_longer keys x in
    let g = fold_longer (put keys x) xs in
    omega arith

fold_either : (keys xs ys : List ℕ) → fold put (fold put keys xs) ys ≡ fold put (fold put keys ys) xs
fold_either keys [] ys = refl
fold_either keys (x ∷ xs) ys =
    fold_either (put keys x) xs ys ∙ ap (λ l. fold put l xs) (put_first keys x ys)

-- more than n distinct numbers stay more than n
pub more_left : (n : ℕ) (xs ys : List ℕ) → n < length (distinct xs) → n < length (distinct (xs ++ ys))
more_left n xs ys over =
    let e : distinct (xs ++ ys) ≡ fold put (distinct xs) ys = fold-append put [] xs ys in
    let h = fold_longer (distinct xs) ys in
    rw e (omega arith)

pub more_right : (n : ℕ) (xs ys : List ℕ) → n < length (distinct ys) → n < length (distinct (xs ++ ys))
more_right n xs ys over =
    let e : distinct (xs ++ ys) ≡ fold put (distinct ys) xs = fold-append put [] xs ys ∙ fold_either [] xs ys in
    let h = fold_longer (distinct ys) xs in
    rw e (omega arith)

-- a few numbers

pub few_none : (n : ℕ) → IsFew n [] false []
few_none n = record { all = λ e. refl; few = λ e. omega arith; over = λ e. cc }

module _ (n : ℕ) (kept : List ℕ) (xs : List ℕ) (v : ℕ) where
  one_more : distinct (xs ++ v ∷ []) ≡ put (distinct xs) v
  one_more = fold-append put [] xs (v ∷ [])

  pub few_over : (more : Bool) → more ≡ true → IsFew n kept more xs → IsFew n kept more (xs ++ v ∷ [])
  few_over more is few = record { all = λ e. cc; few = λ e. cc; over = λ e. more_left n xs (v ∷ []) (few.over e) }

  module _ (more : Bool) (is : more ≡ false) (few : IsFew n kept more xs) where
    kept_more : put kept v ≡ distinct (xs ++ v ∷ [])
    kept_more = sym (one_more ∙ ap (λ l. put l v) (sym (few.all is)))

    pub few_there : put kept v ≡ kept → IsFew n kept more (xs ++ v ∷ [])
    few_there same = record { all = λ e. sym same ∙ kept_more; few = few.few; over = λ e. cc }

    pub few_more : (i : ℕ) (new : List ℕ) (still : Bool) → i ≤ length kept → length kept < n → put kept v ≡ insert kept i v → new ≡ insert kept i v → still ≡ more → IsFew n new still (xs ++ v ∷ [])
    few_more i new still within room placed now same =
        let long : length new ≡ length kept + 1 = ap length now ∙ length-insert kept i v within in
        record { all = λ e. now ∙ sym placed ∙ kept_more; few = λ e. omega arith; over = λ e. cc }

    pub few_full : (i : ℕ) (now : Bool) → i ≤ length kept → n ≤ length kept → put kept v ≡ insert kept i v → now ≡ true → IsFew n kept now (xs ++ v ∷ [])
    few_full i now within full placed over =
        let e : distinct (xs ++ v ∷ []) ≡ insert kept i v = sym kept_more ∙ placed in
        let long = length-insert kept i v within in
        record { all = λ t. cc; few = λ t. cc; over = λ t. rw e (omega arith) }

-- the few of two lists

-- more kept and a mark, for each list for which these stood, with the first i of the others
pub Joins : ℕ → List ℕ → Bool → List ℕ → ℕ → List ℕ → Bool → Type 0
Joins n kept more others i now mark =
    (xs : List ℕ) → IsFew n kept more xs → IsFew n now mark (xs ++ take i others)

module _ (n : ℕ) (kept : List ℕ) (more : Bool) (others : List ℕ) where
  pub join_begun : (now : List ℕ) (mark : Bool) → now ≡ kept → mark ≡ more → Joins n kept more others 0 now mark
  unfolding Joins
  join_begun now mark same still xs few = record { all = λ e. same ∙ few.all (sym still ∙ e) ∙ ap distinct (sym (append-nil xs)); few = λ e. let h = few.few (sym still ∙ e) in rw same h; over = λ e. rw (append-nil xs) (few.over (sym still ∙ e)) }

  pub join_more : (i : ℕ) (now new : List ℕ) (mark after : Bool) → i < length others → Joins n kept more others i now mark
      → ((numbers : List ℕ) → IsFew n now mark numbers → IsFew n new after (numbers ++ get_or others i 0 ∷ []))
      → Joins n kept more others (i + 1) new after
  unfolding Joins
  join_more i now new mark after within so_far adds xs few =
      subst (IsFew n new after) (append_assoc xs (take i others) (get_or others i 0 ∷ []) ∙ ap (λ l. xs ++ l) (sym (take_more others i 0 within))) (adds (xs ++ take i others) (so_far xs few))

  module _ (i : ℕ) (now : List ℕ) (mark other : Bool) (end : length others ≤ i) (joins : Joins n kept more others i now mark) where
    pub join_done : (new : List ℕ) (after : Bool) → new ≡ now → after ≡ mark → other ≡ false → (xs ys : List ℕ) → IsFew n kept more xs → IsFew n others other ys → IsFew n new after (xs ++ ys)
    unfolding Joins
    join_done new after same still without xs ys few given =
        let e : distinct (xs ++ take i others) ≡ distinct (xs ++ ys) =
        ap (λ l. distinct (xs ++ l)) (take_all i others end) ∙ fold-append put [] xs others ∙ ap (λ l. fold put (distinct xs) l) (given.all without) ∙ sym (distinct-append xs ys) in
        let so = joins xs few in
        record { all = λ h. same ∙ so.all (sym still ∙ h) ∙ e; few = λ h. let l = so.few (sym still ∙ h) in rw same l; over = λ h. rw (sym e) (so.over (sym still ∙ h)) }

    pub join_over : (new : List ℕ) (after : Bool) → after ≡ true → other ≡ true → (xs ys : List ℕ) → IsFew n others other ys → IsFew n new after (xs ++ ys)
    join_over new after over with_more xs ys given = record { all = λ h. cc; few = λ h. cc; over = λ h. more_right n xs ys (given.over with_more) }
