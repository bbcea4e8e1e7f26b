-- The distinct numbers of a list rise, and are the numbers of the list.
use Rattle.std.proofs.Common.{◌≡◌, ℕ, ◌<◌, inl, inr, ⊎_elim, List, [], ◌∷◌, fold, refl, sym, subst, arith}
use Rattle.std.specs.BTreeSet.{insert_key}
use Rattle.std.specs.List.{AllByRecursion}
use Rattle.std.specs.Cmp.{ranks}
use Rattle.std.specs.Ordering.{MatchOrdering, match_ordering, nat_cmp}
use Rattle.std.specs.declared.cmp.Ordering.{Ordering}
use Rattle.std.specs.declared.cmp.Ordering.TheVariants.{Less, Equal, Greater}
use Rattle.cv_runs.specs.Learned.{distinct}
use Rattle.cv_patch.proofs.Rising.{Rising}
use Rattle.cv_patch.proofs.Standing.{In, All-at, All-standing}

-- a key at its place
abbrev put : List ℕ → ℕ → List ℕ
put keys k = insert_key nat_cmp keys k

module _ (P : ℕ → Type 0) where
  All-placed : (o : Ordering) (k x : ℕ) (xs more : List ℕ) → P k → AllByRecursion P (x ∷ xs) → AllByRecursion P more → AllByRecursion P (match_ordering o (k ∷ x ∷ xs) (x ∷ xs) (x ∷ more))
  All-placed Less k x xs more one all rest = (one, all)
  All-placed Equal k x xs more one all rest = all
  All-placed Greater k x xs more one all rest = (all.0, rest)

  All-put : (xs : List ℕ) (k : ℕ) → AllByRecursion P xs → P k → AllByRecursion P (put xs k)
  All-put [] k all one = (one, tt)
  All-put (x ∷ xs) k all one =
      All-placed (nat_cmp k x) k x xs (put xs k) one all (All-put xs k all.1 one)

  All-folded : (keys xs : List ℕ) → AllByRecursion P keys → AllByRecursion P xs → AllByRecursion P (fold put keys xs)
  All-folded keys [] some all = some
  All-folded keys (x ∷ xs) some all = All-folded (put keys x) xs (All-put keys x some all.0) all.1

  pub All-distinct : (xs : List ℕ) → AllByRecursion P xs → AllByRecursion P (distinct xs)
  All-distinct xs all = All-folded [] xs tt all

Rising-placed : (o : Ordering) (k x : ℕ) (xs : List ℕ) → MatchOrdering o (k < x) (k ≡ x) (x < k) → Rising ◌<◌ (x ∷ xs) → Rising ◌<◌ (put xs k) → Rising ◌<◌ (match_ordering o (k ∷ x ∷ xs) (x ∷ xs) (x ∷ put xs k))
Rising-placed Less k x xs is up rest =
    ((is, All-standing (λ y. k < y) xs (λ y there. let above : x < y = All-at (λ z. x < z) y xs up.0 there in omega arith)), up)
Rising-placed Equal k x xs is up rest = up
Rising-placed Greater k x xs is up rest = (All-put (λ y. x < y) xs k up.0 is, rest)

Rising-put : (xs : List ℕ) (k : ℕ) → Rising ◌<◌ xs → Rising ◌<◌ (put xs k)
Rising-put [] k up = (tt, tt)
Rising-put (x ∷ xs) k up =
    Rising-placed (nat_cmp k x) k x xs (ranks k x) up (Rising-put xs k up.1)

Rising-folded : (keys xs : List ℕ) → Rising ◌<◌ keys → Rising ◌<◌ (fold put keys xs)
Rising-folded keys [] up = up
Rising-folded keys (x ∷ xs) up = Rising-folded (put keys x) xs (Rising-put keys x up)

pub Rising-distinct : (xs : List ℕ) → Rising ◌<◌ (distinct xs)
Rising-distinct xs = Rising-folded [] xs tt

In-placed_new : (o : Ordering) (k x : ℕ) (xs more : List ℕ) → MatchOrdering o (k < x) (k ≡ x) (x < k) → In k more → In k (match_ordering o (k ∷ x ∷ xs) (x ∷ xs) (x ∷ more))
In-placed_new Less k x xs more is there = inl refl
In-placed_new Equal k x xs more is there = inl is
In-placed_new Greater k x xs more is there = inr there

In-put_new : (xs : List ℕ) (k : ℕ) → In k (put xs k)
In-put_new [] k = inl refl
In-put_new (x ∷ xs) k =
    In-placed_new (nat_cmp k x) k x xs (put xs k) (ranks k x) (In-put_new xs k)

In-placed_old : (o : Ordering) (z k x : ℕ) (xs more : List ℕ) → (In z xs → In z more) → In z (x ∷ xs) → In z (match_ordering o (k ∷ x ∷ xs) (x ∷ xs) (x ∷ more))
In-placed_old Less z k x xs more kept there = inr there
In-placed_old Equal z k x xs more kept there = there
In-placed_old Greater z k x xs more kept there = ⊎_elim inl (λ behind. inr (kept behind)) there

In-put_old : (z : ℕ) (xs : List ℕ) (k : ℕ) → In z xs → In z (put xs k)
In-put_old z [] k there = absurd there
In-put_old z (x ∷ xs) k there =
    In-placed_old (nat_cmp k x) z k x xs (put xs k) (In-put_old z xs k) there

In-folded_old : (z : ℕ) (keys xs : List ℕ) → In z keys → In z (fold put keys xs)
In-folded_old z keys [] there = there
In-folded_old z keys (x ∷ xs) there = In-folded_old z (put keys x) xs (In-put_old z keys x there)

In-folded : (z : ℕ) (keys xs : List ℕ) → In z xs → In z (fold put keys xs)
In-folded z keys [] there = absurd there
In-folded z keys (x ∷ xs) there =
    ⊎_elim
    (λ e. In-folded_old z (put keys x) xs (subst (λ w. In w (put keys x)) (sym e) (In-put_new keys x)))
    (λ behind. In-folded z (put keys x) xs behind)
    there

pub In-distinct : (z : ℕ) (xs : List ℕ) → In z xs → In z (distinct xs)
In-distinct z xs there = In-folded z [] xs there
