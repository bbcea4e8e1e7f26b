-- What is learned of observations at points are invariants, at points.
use Rattle.std.proofs.Common.{◌≡◌, ℕ, ◌<◌, ◌≤◌, Bool, true, ◌&&◌, not, eqb, leb, ltb, List, [], ◌∷◌, ◌++◌, fold, length, map, refl, arith}
use Rattle.std.proofs.lemmas.Bool.{and_from, and_parts, both_ways, cond_both, eq-eqb, le-leb, leb-true, lt-ltb}
use Rattle.std.proofs.lemmas.List.Elements.{All-from_recursion, recursion_from_All}
use Rattle.std.proofs.lemmas.List.Sums.{AllPass-from_list_all, list_all-from_AllPass}
use Rattle.std.specs.BTreeSet.{insert_key}
use Rattle.std.specs.Bool.{IsTrue}
use Rattle.std.specs.Cmp.{ranks}
use Rattle.std.specs.List.{AllByRecursion, filter, flat_map, list_all}
use Rattle.std.specs.Ordering.{MatchOrdering, match_ordering, nat_cmp}
use Rattle.std.specs.declared.cmp.Ordering.{Ordering}
use Rattle.std.specs.declared.cmp.Ordering.TheVariants.{Less, Equal, Greater}
use Rattle.cv_base.specs.declared.entries.Observation.{Observation}
use Rattle.cv_base.specs.declared.invariants.Invariant.{Invariant}
use Rattle.cv_base.specs.declared.invariants.Invariant.TheVariants.{OneOf, Lower, LessThan, SpOffset}
use Rattle.cv_base.specs.Invariants.{is_register, is_ascending, is_invariant}
use Rattle.cv_base.specs.Picture.{Picture, is_point}
use Rattle.cv_base.specs.Registers.{register}
use Rattle.cv_isa.specs.Uses.{registers}
use Rattle.cv_observe.proofs.Distinct.{All-distinct, points_pass}
use Rattle.cv_observe.specs.StandsFor.{are_at_points}
use Rattle.cv_observe.specs.Statements.{LearnedAreAtPoints, LearnedAreInvariants}
use Rattle.cv_runs.specs.Invariants.{point_of}
use Rattle.cv_runs.specs.Learned.{distinct, values_of, signed_least, one_of, one_ofs, lower, lowers, is_pair, is_ordered, less_thans, offsets_of, sp_offset, learned_at, seen_at, learned}
use Rattle.cv_runs.specs.Text.{reads_at, window_registers}

-- what holds of each element, by recursion
module _ {X : Type 0} where
  each_joined : (P : X → Type 0) (xs ys : List X) → AllByRecursion P xs → AllByRecursion P ys → AllByRecursion P (xs ++ ys)
  each_joined P [] ys first rest = rest
  each_joined P (x ∷ xs) ys first rest = (first.0, each_joined P xs ys first.1 rest)

  each_passing : (P Q : X → Type 0) (test : X → Bool) → ((x : X) → P x → test x ≡ true → Q x) → (xs : List X) → AllByRecursion P xs → AllByRecursion Q (filter test xs)
  each_passing P Q test gives [] all = tt
  each_passing P Q test gives (x ∷ xs) all =
      let rest = each_passing P Q test gives xs all.1 in
      cond_both (test x) (x ∷ filter test xs) (filter test xs) (AllByRecursion Q) (λ passes. (gives x all.0 passes, rest)) (λ _. rest)

  each_weaker : (P Q : X → Type 0) → ((x : X) → P x → Q x) → (xs : List X) → AllByRecursion P xs → AllByRecursion Q xs
  each_weaker P Q gives [] all = tt
  each_weaker P Q gives (x ∷ xs) all = (gives x all.0, each_weaker P Q gives xs all.1)

  each_test : (test : X → Bool) (xs : List X) → list_all test xs ≡ true → AllByRecursion (λ x. test x ≡ true) xs
  each_test test xs all =
      recursion_from_All (λ x. test x ≡ true) xs (AllPass-from_list_all test xs all)

  test_each : (test : X → Bool) (xs : List X) → AllByRecursion (λ x. test x ≡ true) xs → list_all test xs ≡ true
  test_each test xs all =
      list_all-from_AllPass test xs (All-from_recursion (λ x. test x ≡ true) xs all)

module _ {X Y : Type 0} (P : X → Type 0) (Q : Y → Type 0) where
  each_mapped : (f : X → Y) → ((x : X) → P x → Q (f x)) → (xs : List X) → AllByRecursion P xs → AllByRecursion Q (map f xs)
  each_mapped f gives [] all = tt
  each_mapped f gives (x ∷ xs) all = (gives x all.0, each_mapped f gives xs all.1)

  each_flat : (f : X → List Y) → ((x : X) → P x → AllByRecursion Q (f x)) → (xs : List X) → AllByRecursion P xs → AllByRecursion Q (flat_map f xs)
  each_flat f gives [] all = tt
  each_flat f gives (x ∷ xs) all =
      each_joined Q (f x) (flat_map f xs) (gives x all.0) (each_flat f gives xs all.1)

-- a key at its place
abbrev put : List ℕ → ℕ → List ℕ
put keys k = insert_key nat_cmp keys k

-- the keys ascend, and are above a bound
abbrev is_above : ℕ → List ℕ → Bool
is_above b keys = is_ascending (b ∷ keys)

above_placed : (o : Ordering) (b k x : ℕ) (xs more : List ℕ) → MatchOrdering o (k < x) (k ≡ x) (x < k) → b < k → is_above b (x ∷ xs) ≡ true → (x < k → is_above x more ≡ true) → is_above b (match_ordering o (k ∷ x ∷ xs) (x ∷ xs) (x ∷ more)) ≡ true
above_placed Less b k x xs more is low up rest =
    let parts = and_parts (ltb b x) (is_ascending (x ∷ xs)) up in
    and_from _ _ (lt-ltb b k low) (and_from _ _ (lt-ltb k x is) parts.1)
above_placed Equal b k x xs more is low up rest = up
above_placed Greater b k x xs more is low up rest =
    let parts = and_parts (ltb b x) (is_ascending (x ∷ xs)) up in
    and_from _ _ parts.0 (rest is)

above_put : (b : ℕ) (xs : List ℕ) (k : ℕ) → b < k → is_above b xs ≡ true → is_above b (put xs k) ≡ true
above_put b [] k low up = and_from _ _ (lt-ltb b k low) refl
above_put b (x ∷ xs) k low up =
    let parts = and_parts (ltb b x) (is_ascending (x ∷ xs)) up in
    above_placed (nat_cmp k x) b k x xs (put xs k) (ranks k x) low up (λ behind. above_put x xs k behind parts.1)

ascending_placed : (o : Ordering) (k x : ℕ) (xs more : List ℕ) → MatchOrdering o (k < x) (k ≡ x) (x < k) → is_ascending (x ∷ xs) ≡ true → (x < k → is_above x more ≡ true) → is_ascending (match_ordering o (k ∷ x ∷ xs) (x ∷ xs) (x ∷ more)) ≡ true
ascending_placed Less k x xs more is up rest = and_from _ _ (lt-ltb k x is) up
ascending_placed Equal k x xs more is up rest = up
ascending_placed Greater k x xs more is up rest = rest is

ascending_put : (xs : List ℕ) (k : ℕ) → is_ascending xs ≡ true → is_ascending (put xs k) ≡ true
ascending_put [] k up = refl
ascending_put (x ∷ xs) k up =
    ascending_placed (nat_cmp k x) k x xs (put xs k) (ranks k x) up (λ behind. above_put x xs k behind up)

ascending_folded : (keys xs : List ℕ) → is_ascending keys ≡ true → is_ascending (fold put keys xs) ≡ true
ascending_folded keys [] up = up
ascending_folded keys (x ∷ xs) up = ascending_folded (put keys x) xs (ascending_put keys x up)

ascending_distinct : (xs : List ℕ) → is_ascending (distinct xs) ≡ true
ascending_distinct xs = ascending_folded [] xs refl

-- distinct numbers are some where the numbers are some
some_placed : (o : Ordering) (k x : ℕ) (xs more : List ℕ) → 1 ≤ length (match_ordering o (k ∷ x ∷ xs) (x ∷ xs) (x ∷ more))
some_placed Less k x xs more = omega arith
some_placed Equal k x xs more = omega arith
some_placed Greater k x xs more = omega arith

some_put : (xs : List ℕ) (k : ℕ) → 1 ≤ length (put xs k)
some_put [] k = omega arith
some_put (x ∷ xs) k = some_placed (nat_cmp k x) k x xs (put xs k)

some_folded : (keys xs : List ℕ) → 1 ≤ length keys → 1 ≤ length (fold put keys xs)
some_folded keys [] some = some
some_folded keys (x ∷ xs) some = some_folded (put keys x) xs (some_put keys x)

some_values : (r : ℕ) (seen : List Observation) → 1 ≤ length seen → 1 ≤ length (distinct (values_of r seen))
some_values r [] some = absurd (omega arith)
some_values r (o ∷ seen) some =
    some_folded (put [] (register o.regs r)) (values_of r seen) (some_put [] (register o.regs r))

-- of each distinct point something is seen there
some_more : (o : Observation) (seen : List Observation) (p : ℕ) → 1 ≤ length (seen_at seen p) → 1 ≤ length (seen_at (o ∷ seen) p)
some_more o seen p some =
    cond_both (eqb o.point p) (o ∷ seen_at seen p) (seen_at seen p) (λ l. 1 ≤ length l) (λ _. omega arith) (λ _. some)

some_here : (o : Observation) (seen : List Observation) → 1 ≤ length (seen_at (o ∷ seen) o.point)
some_here o seen =
    cond_both (eqb o.point o.point) (o ∷ seen_at seen o.point) (seen_at seen o.point) (λ l. 1 ≤ length l) (λ _. omega arith)
    (λ differs. absurd (both_ways _ differs (eq-eqb o.point o.point refl)))

some_each : (seen : List Observation) → AllByRecursion (λ p. 1 ≤ length (seen_at seen p)) (map (λ (o : Observation). o.point) seen)
some_each [] = tt
some_each (o ∷ seen) =
    (some_here o seen, each_weaker (λ p. 1 ≤ length (seen_at seen p)) (λ p. 1 ≤ length (seen_at (o ∷ seen) p)) (some_more o seen) (map (λ (o : Observation). o.point) seen) (some_each seen))

abbrev points_in : List Observation → List ℕ
points_in seen = distinct (map (λ (o : Observation). o.point) seen)

some_seen : (seen : List Observation) → AllByRecursion (λ p. 1 ≤ length (seen_at seen p)) (points_in seen)
some_seen seen =
    let points : List ℕ = map (λ (o : Observation). o.point) seen in
    let P : ℕ → Type 0 = λ p. 1 ≤ length (seen_at seen p) in
    recursion_from_All P (distinct points) (All-distinct P points (All-from_recursion P points (some_each seen)))

-- registers from x1 to x31
abbrev IsRegister : ℕ → Type 0
IsRegister r = is_register r ≡ true

are_registers : AllByRecursion IsRegister registers
unfolding registers
are_registers = each_test is_register registers refl

some_registers : (test : ℕ → Bool) → AllByRecursion IsRegister (filter test registers)
some_registers test = each_passing IsRegister IsRegister test (λ r is passes. is) registers are_registers

-- what is learned at a point, each kind in turn
module _ (Q : Invariant → Type 0) (p : ℕ) (reads window : List ℕ) (seen : List Observation) (are_read : AllByRecursion IsRegister reads) (in_window : AllByRecursion IsRegister window) where
  one_ofs_are : ((r : ℕ) → IsRegister r → length (distinct (values_of r seen)) ≤ 4 → Q (OneOf p r (distinct (values_of r seen)))) → AllByRecursion Q (one_ofs p reads seen)
  one_ofs_are one =
      each_flat IsRegister Q (λ r. one_of p r (distinct (values_of r seen)))
      (λ r is.
      let values : List ℕ = distinct (values_of r seen) in
      cond_both (leb (length values) 4) (OneOf p r values ∷ []) [] (AllByRecursion Q) (λ few. (one r is (leb-true (length values) 4 few), tt)) (λ _. tt))
      reads are_read

  lowers_are : ((r bound : ℕ) → IsRegister r → Q (Lower p r bound)) → AllByRecursion Q (lowers p reads seen)
  lowers_are low =
      each_flat IsRegister Q (λ r. lower p r (values_of r seen))
      (λ r is.
      let values : List ℕ = values_of r seen in
      cond_both (leb (length (distinct values)) 4) [] (Lower p r (signed_least values) ∷ []) (AllByRecursion Q) (λ _. tt) (λ _. (low r (signed_least values) is, tt)))
      reads are_read

  less_thans_are : ((a b : ℕ) → IsRegister a → IsRegister b → not (eqb a b) ≡ true → Q (LessThan p a b)) → AllByRecursion Q (less_thans p reads window seen)
  less_thans_are less =
      each_flat IsRegister Q (λ a. map (λ b. LessThan p a b) (filter (λ b. is_pair reads a b && is_ordered seen a b) window))
      (λ a is.
      let Other : ℕ → Type 0 = λ b. IsRegister b × (not (eqb a b) ≡ true) in
      each_mapped Other Q (λ b. LessThan p a b) (λ b other. less a b is other.0 other.1) (filter (λ b. is_pair reads a b && is_ordered seen a b) window)
      (each_passing IsRegister Other (λ b. is_pair reads a b && is_ordered seen a b)
      (λ b is' passes. (is', (and_parts _ _ (and_parts (is_pair reads a b) (is_ordered seen a b) passes).0).0))
      window in_window))
      window in_window

  sp_offset_is : ((offset : ℕ) → Q (SpOffset p offset)) → (offsets : List ℕ) → AllByRecursion Q (sp_offset p offsets)
  sp_offset_is off [] = tt
  sp_offset_is off (offset ∷ []) = (off offset, tt)
  sp_offset_is off (offset ∷ next ∷ rest) = tt

  learned_are : ((r : ℕ) → IsRegister r → length (distinct (values_of r seen)) ≤ 4 → Q (OneOf p r (distinct (values_of r seen)))) → ((r bound : ℕ) → IsRegister r → Q (Lower p r bound)) → ((a b : ℕ) → IsRegister a → IsRegister b → not (eqb a b) ≡ true → Q (LessThan p a b)) → ((offset : ℕ) → Q (SpOffset p offset)) → AllByRecursion Q (learned_at p reads window seen)
  learned_are one low less off =
      let ones : List Invariant = one_ofs p reads seen in
      let lows : List Invariant = lowers p reads seen in
      let lesses : List Invariant = less_thans p reads window seen in
      each_joined Q (ones ++ lows ++ lesses) (sp_offset p (offsets_of seen))
      (each_joined Q (ones ++ lows) lesses (each_joined Q ones lows (one_ofs_are one) (lowers_are low)) (less_thans_are less))
      (sp_offset_is off (offsets_of seen))

module _ (image : Picture) (seen : List Observation) where
  abbrev at : ℕ → List Invariant
  at p = learned_at p (reads_at image p) (window_registers image p) (seen_at seen p)

  kinds_at : (p : ℕ) → 1 ≤ length (seen_at seen p) → AllByRecursion (λ (k : Invariant). is_invariant k ≡ true) (at p)
  kinds_at p some =
      learned_are (λ (k : Invariant). is_invariant k ≡ true) p (reads_at image p) (window_registers image p) (seen_at seen p) (some_registers _) (some_registers _)
      (λ r is few. and_from _ _ (and_from _ _ (and_from _ _ is (le-leb _ _ (some_values r (seen_at seen p) some))) (le-leb _ _ few)) (ascending_distinct (values_of r (seen_at seen p))))
      (λ r bound is. is)
      (λ a b is is' differ. and_from _ _ (and_from _ _ is is') differ)
      (λ offset. refl)

  kinds : list_all is_invariant (learned image seen) ≡ true
  kinds =
      test_each is_invariant (learned image seen)
      (each_flat (λ p. 1 ≤ length (seen_at seen p)) (λ (k : Invariant). is_invariant k ≡ true) at kinds_at (points_in seen) (some_seen seen))

  points_at : (p : ℕ) → is_point image p ≡ true → AllByRecursion (λ (k : Invariant). is_point image (point_of k) ≡ true) (at p)
  points_at p is =
      learned_are (λ (k : Invariant). is_point image (point_of k) ≡ true) p (reads_at image p) (window_registers image p) (seen_at seen p) (some_registers _) (some_registers _)
      (λ r _ _. is) (λ r bound _. is) (λ a b _ _ _. is) (λ offset. is)

  points : IsTrue (are_at_points image seen) → list_all (λ (k : Invariant). is_point image (point_of k)) (learned image seen) ≡ true
  points all =
      test_each (λ (k : Invariant). is_point image (point_of k)) (learned image seen)
      (each_flat (λ p. is_point image p ≡ true) (λ (k : Invariant). is_point image (point_of k) ≡ true) at points_at (points_in seen)
      (recursion_from_All (λ p. is_point image p ≡ true) (points_in seen) (points_pass (is_point image) seen all)))

-- as laws
pub learned_kinds : LearnedAreInvariants
learned_kinds = kinds

pub learned_points : LearnedAreAtPoints
learned_points = points
