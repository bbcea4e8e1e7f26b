-- What holds of each number of a list holds of the distinct ones.
use Rattle.std.proofs.Common.{◌≡◌, ℕ, Bool, true, List, [], ◌∷◌, ◌∙◌, map, fold, Ordering}
use Rattle.std.proofs.lemmas.List.Elements.{All-from_recursion, recursion_from_All}
use Rattle.std.proofs.lemmas.List.Folds.{list_all-map}
use Rattle.std.proofs.lemmas.List.Sums.{AllPass-from_list_all}
use Rattle.std.specs.BTreeSet.{insert_key}
use Rattle.std.specs.List.{All, AllByRecursion, list_all}
use Rattle.std.specs.Ordering.{match_ordering, nat_cmp}
use Rattle.std.specs.declared.cmp.Ordering.TheVariants.{Less, Equal, Greater}
use Rattle.cv_base.specs.declared.entries.Observation.{Observation}
use Rattle.cv_runs.specs.Learned.{distinct}

module _ (P : ℕ → Type 0) where
  placed : (o : Ordering) (k x : ℕ) (xs more : List ℕ) → P k → P x → AllByRecursion P xs → AllByRecursion P more → AllByRecursion P (match_ordering o (k ∷ x ∷ xs) (x ∷ xs) (x ∷ more))
  placed Less k x xs more pk px all rest = (pk, (px, all))
  placed Equal k x xs more pk px all rest = (px, all)
  placed Greater k x xs more pk px all rest = (px, rest)

  inserted : (xs : List ℕ) (k : ℕ) → AllByRecursion P xs → P k → AllByRecursion P (insert_key nat_cmp xs k)
  inserted [] k all pk = (pk, tt)
  inserted (x ∷ xs) k all pk =
      placed (nat_cmp k x) k x xs (insert_key nat_cmp xs k) pk all.0 all.1 (inserted xs k all.1 pk)

  folded : (keys xs : List ℕ) → AllByRecursion P keys → AllByRecursion P xs → AllByRecursion P (fold (insert_key nat_cmp) keys xs)
  folded keys [] some all = some
  folded keys (x ∷ xs) some all = folded (insert_key nat_cmp keys x) xs (inserted keys x some all.0) all.1

  pub All-distinct : (xs : List ℕ) → All P xs → All P (distinct xs)
  All-distinct xs all = All-from_recursion P (distinct xs) (folded [] xs tt (recursion_from_All P xs all))

-- a test that each observation's point passes is passed by the distinct points
pub points_pass : (test : ℕ → Bool) (seen : List Observation) → list_all (λ (o : Observation). test o.point) seen ≡ true → All (λ (p : ℕ). test p ≡ true) (distinct (map (λ (o : Observation). o.point) seen))
points_pass test seen all =
    let points : List ℕ = map (λ (o : Observation). o.point) seen in
    All-distinct (λ (p : ℕ). test p ≡ true) points (AllPass-from_list_all test points (list_all-map test (λ (o : Observation). o.point) seen ∙ all))
