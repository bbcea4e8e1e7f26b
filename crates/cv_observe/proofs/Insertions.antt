-- Keys that are inserted into a list may change places, and come twice.
use Rattle.std.proofs.Common.{◌≡◌, ℕ, ◌<◌, List, [], ◌∷◌, ◌++◌, ◌∙◌, refl, sym, ap, fold, true, false, eqb, ltb, ⊎_elim, arith}
use Rattle.std.proofs.lemmas.Bool.{cases_lt, cases_eq}
use Rattle.std.proofs.lemmas.Bool.Decides.{nat_tests}
use Rattle.std.proofs.lemmas.List.Sums.{fold-append}
use Rattle.std.specs.BTreeSet.{insert_key}
use Rattle.std.specs.Ordering.{match_ordering, nat_cmp}
use Rattle.std.specs.declared.cmp.Ordering.TheVariants.{Less, Equal, Greater}
use Rattle.cv_runs.specs.Learned.{distinct}

abbrev pub put : List ℕ → ℕ → List ℕ
put keys k = insert_key nat_cmp keys k

cmp_less : (k x : ℕ) → k < x → nat_cmp k x ≡ Less
cmp_less k x h =
    let e : ltb k x ≡ true = grind (arith, nat_tests) in
    rw e refl

cmp_equal : (k x : ℕ) → k ≡ x → nat_cmp k x ≡ Equal
cmp_equal k x h =
    let e : ltb k x ≡ false = grind (arith, nat_tests) in
    let f : eqb k x ≡ true = grind (arith, nat_tests) in
    rw (e, f) refl

cmp_greater : (k x : ℕ) → x < k → nat_cmp k x ≡ Greater
cmp_greater k x h =
    let e : ltb k x ≡ false = grind (arith, nat_tests) in
    let f : eqb k x ≡ false = grind (arith, nat_tests) in
    rw (e, f) refl

module _ (k x : ℕ) (xs : List ℕ) where
  pub before : k < x → put (x ∷ xs) k ≡ k ∷ x ∷ xs
  before h = ap (λ o. match_ordering o (k ∷ x ∷ xs) (x ∷ xs) (x ∷ put xs k)) (cmp_less k x h)

  pub there : k ≡ x → put (x ∷ xs) k ≡ x ∷ xs
  there h = ap (λ o. match_ordering o (k ∷ x ∷ xs) (x ∷ xs) (x ∷ put xs k)) (cmp_equal k x h)

  pub behind : x < k → put (x ∷ xs) k ≡ x ∷ put xs k
  behind h = ap (λ o. match_ordering o (k ∷ x ∷ xs) (x ∷ xs) (x ∷ put xs k)) (cmp_greater k x h)

pub three : (C : Type 0) (k x : ℕ) → (k < x → C) → (k ≡ x → C) → (x < k → C) → C
three C k x less same more =
    ⊎_elim less (λ up. ⊎_elim same (λ other. more (omega arith)) (cases_eq k x)) (cases_lt k x)

-- two keys, the lesser first or last
put_lesser : (xs : List ℕ) (a b : ℕ) → a < b → put (put xs a) b ≡ put (put xs b) a
put_lesser [] a b h = behind b a [] h ∙ sym (before a b [] h)
put_lesser (x ∷ xs) a b h =
    three (put (put (x ∷ xs) a) b ≡ put (put (x ∷ xs) b) a) a x
    (λ low.
    ap (λ l. put l b) (before a x xs low) ∙ behind b a (x ∷ xs) h
    ∙ three (a ∷ put (x ∷ xs) b ≡ put (put (x ∷ xs) b) a) b x
    (λ e. rw (before b x xs e) (sym (before a b (x ∷ xs) h)))
    (λ e. rw (there b x xs e) (sym (before a x xs low)))
    (λ e. rw (behind b x xs e) (sym (before a x (put xs b) low))))
    (λ same.
    let up : x < b = omega arith in
    ap (λ l. put l b) (there a x xs same) ∙ behind b x xs up
    ∙ sym (ap (λ l. put l a) (behind b x xs up) ∙ there a x (put xs b) same))
    (λ high.
    let up : x < b = omega arith in
    ap (λ l. put l b) (behind a x xs high) ∙ behind b x (put xs a) up
    ∙ ap (λ l. x ∷ l) (put_lesser xs a b h)
    ∙ sym (ap (λ l. put l a) (behind b x xs up) ∙ behind a x (put xs b) high))

pub put_put : (xs : List ℕ) (a b : ℕ) → put (put xs a) b ≡ put (put xs b) a
put_put xs a b =
    three (put (put xs a) b ≡ put (put xs b) a) a b
    (λ h. put_lesser xs a b h)
    (λ e. rw e refl)
    (λ h. sym (put_lesser xs b a h))

pub put_twice : (xs : List ℕ) (k : ℕ) → put (put xs k) k ≡ put xs k
put_twice [] k = there k k [] refl
put_twice (x ∷ xs) k =
    three (put (put (x ∷ xs) k) k ≡ put (x ∷ xs) k) k x
    (λ e. rw (before k x xs e) (there k k (x ∷ xs) refl))
    (λ e. ap (λ l. put l k) (there k x xs e))
    (λ e. rw (behind k x xs e) (behind k x (put xs k) e ∙ ap (λ l. x ∷ l) (put_twice xs k)))

-- the first key may as well come last
pub put_first : (keys : List ℕ) (k : ℕ) (xs : List ℕ) → fold put (put keys k) xs ≡ put (fold put keys xs) k
put_first keys k [] = refl
put_first keys k (x ∷ xs) = ap (λ l. fold put l xs) (put_put keys k x) ∙ put_first (put keys x) k xs

-- the keys of a list with one more
fold_put : (keys xs : List ℕ) (k : ℕ) → fold put keys (put xs k) ≡ put (fold put keys xs) k
fold_put keys [] k = refl
fold_put keys (x ∷ xs) k =
    three (fold put keys (put (x ∷ xs) k) ≡ put (fold put keys (x ∷ xs)) k) k x
    (λ e. rw (before k x xs e) (put_first keys k (x ∷ xs)))
    (λ e. rw (there k x xs e) (sym (rw e (sym (put_first (put keys x) x xs) ∙ ap (λ l. fold put l xs) (put_twice keys x)))))
    (λ e. rw (behind k x xs e) (fold_put (put keys x) xs k))

fold_fold : (keys some xs : List ℕ) → fold put keys (fold put some xs) ≡ fold put (fold put keys some) xs
fold_fold keys some [] = refl
fold_fold keys some (x ∷ xs) = fold_fold keys (put some x) xs ∙ ap (λ l. fold put l xs) (fold_put keys some x)

-- the distinct numbers of two lists are those of the one, with those of the other inserted
pub distinct-append : (xs ys : List ℕ) → distinct (xs ++ ys) ≡ fold (insert_key nat_cmp) (distinct xs) (distinct ys)
distinct-append xs ys = fold-append put [] xs ys ∙ sym (fold_fold (distinct xs) [] ys)
