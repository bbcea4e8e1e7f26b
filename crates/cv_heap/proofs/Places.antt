-- A test that one element of a list alone may pass, and the tests of the blocks, which are such.
use Rattle.std.proofs.Common.{◌≡◌, ◌≢◌, ℕ, suc, zero, ◌+◌, ◌<◌, ◌≤◌, Bool, true, false, not, ◌&&◌, eqb, leb, List, [], ◌∷◌, length, get_or, ◌-◌, Option, Some, None, Result, Ok, Err, Less, Greater, refl, sym, ap, ◌∙◌, inl, inr, arith}
use Rattle.std.specs.List.{All, list_any, filter, remove}
use Rattle.std.specs.List.Sorted.{IsNonDecreasingBy, IsPartitionPoint, IsSearchInRange, IsBinarySearchResult}
use Rattle.std.specs.Option.{SomeIff, MatchOption}
use Rattle.std.specs.Ordering.{nat_cmp, ordering_index}
use Rattle.std.specs.Result.{result_ok}
use Rattle.std.proofs.lemmas.Bool.{cases_Bool, cases_eq, cases_lt, cases_order, ne_eqb, eq-eqb, lt-leb, leb-true, leb-false, and_left, and_right}
use Rattle.std.proofs.lemmas.Bool.Decides.{nat_tests}
use Rattle.std.proofs.lemmas.List.{get_or_default}
use Rattle.std.proofs.lemmas.List.Folds.{list_any_at, list_any_none}
use Rattle.cv_heap.specs.declared.blocks.Block.{Block}
use Rattle.cv_heap.specs.Heap.{Heap, without_block}
use Rattle.cv_heap.specs.Kept.{AreApart}
use Rattle.cv_heap.specs.Found.{NoneBegins, BeginsAt, NoneBegun, IsLastBegun}

-- the test fails of each element but the one at i
abbrev pub AloneAt : {X : Type 0} → (X → Bool) → List X → ℕ → Type 0
AloneAt {X} p xs i = (k : ℕ) (d : X) → k < length xs → k ≢ i → p (get_or xs k d) ≡ false

fails_too : {X : Type 0} (p : X → Bool) (xs : List X) (i : ℕ) (d : X) → p (get_or xs i d) ≡ false → AloneAt p xs i → All (λ x. p x ≡ false) xs
fails_too p xs i d fails alone =
    λ k e h. elim (cases_eq k i) [
      | inl same ↦ ap p (get_or_default xs k e d h) ∙ ap (λ j. p (get_or xs j d)) same ∙ fails
      | inr other ↦ alone k e h other
    ]

pub list_any_alone : {X : Type 0} (p : X → Bool) (xs : List X) (i : ℕ) (d : X) → i < length xs → AloneAt p xs i → list_any p xs ≡ p (get_or xs i d)
list_any_alone p xs i d within alone =
    elim (cases_Bool (p (get_or xs i d))) [
      | inl passes ↦ list_any_at p xs i d within passes ∙ sym passes
      | inr fails ↦ list_any_none p xs (fails_too p xs i d fails alone) ∙ sym fails
    ]

pub filter_all : {X : Type 0} (p : X → Bool) (xs : List X) → All (λ x. p x ≡ false) xs → filter (λ x. not (p x)) xs ≡ xs
filter_all p [] all = refl
filter_all p (x ∷ xs) all =
    let head : p x ≡ false = all 0 x (omega arith) in
    let rest : filter (λ y. not (p y)) xs ≡ xs = filter_all p xs (λ k d h. all (suc k) d (omega arith)) in
    rw head (ap (λ l. x ∷ l) rest)

pub filter_alone : {X : Type 0} (p : X → Bool) (xs : List X) (i : ℕ) (d : X) → i < length xs → p (get_or xs i d) ≡ true → AloneAt p xs i → filter (λ x. not (p x)) xs ≡ remove xs i
filter_alone p [] i d within passes alone = absurd (omega arith)
filter_alone p (x ∷ xs) zero d within passes alone =
    rw passes (filter_all p xs (λ k e h. alone (suc k) e (omega arith) (omega arith)))
filter_alone p (x ∷ xs) (suc i) d within passes alone =
    let head : p x ≡ false = alone 0 x (omega arith) (omega arith) in
    let rest : filter (λ y. not (p y)) xs ≡ remove xs i =
    filter_alone p xs i d (omega arith) passes (λ k e h other. alone (suc k) e (omega arith) (omega arith)) in
    rw head (ap (λ l. x ∷ l) rest)

-- one block at most begins at an address
pub begins_alone : (blocks : List Block) (a i : ℕ) → AreApart blocks → BeginsAt blocks a i → AloneAt (λ (b : Block). eqb b.place a) blocks i
begins_alone blocks a i apart at =
    λ k d h other. ne_eqb _ _ (λ same. elim (cases_order k i) [
      | inl equal ↦ other equal
      | inr (inl before) ↦ omega (arith, apart k i d before at.within, at.begins d)
      | inr (inr after) ↦ omega (arith, apart i k d after h, at.begins d)
    ])

-- a block that holds what begins at an address is the last that begins at or below it
pub holds_alone : (blocks : List Block) (a count i : ℕ) → AreApart blocks → IsLastBegun blocks a i → AloneAt (λ (b : Block). leb b.place a && leb (a + count) (b.place + b.size)) blocks i
holds_alone blocks a count i apart last =
    λ k d h other. elim (cases_order k i) [
      | inl equal ↦ absurd (other equal)
      | inr (inl before) ↦
          let past : leb (a + count) ((get_or blocks k d).place + (get_or blocks k d).size) ≡ false =
          lt-leb _ _ (omega (arith, apart k i d before last.within, last.begun d)) in
          and_right _ _ past
      | inr (inr after) ↦ and_left _ _ (lt-leb _ _ (last.later k d (omega arith) h))
    ]

pub covers_last : (blocks : List Block) (a count i : ℕ) (b : Block) → AreApart blocks → IsLastBegun blocks a i → b ≡ get_or blocks i b → (leb b.place a && leb (a + count) (b.place + b.size)) ≡ list_any (λ (b : Block). leb b.place a && leb (a + count) (b.place + b.size)) blocks
covers_last blocks a count i b apart last read =
    ap (λ (b : Block). leb b.place a && leb (a + count) (b.place + b.size)) read
    ∙ sym (list_any_alone (λ (b : Block). leb b.place a && leb (a + count) (b.place + b.size)) blocks i b last.within (holds_alone blocks a count i apart last))

pub covers_none : (blocks : List Block) (a count : ℕ) → NoneBegun blocks a → list_any (λ (b : Block). leb b.place a && leb (a + count) (b.place + b.size)) blocks ≡ false
covers_none blocks a count none = list_any_none _ blocks (λ k d h. and_left _ _ (lt-leb _ _ (none k d h)))

-- the places rise
pub rising : (blocks : List Block) → AreApart blocks → IsNonDecreasingBy (λ (b : Block). b.place) blocks
rising blocks apart =
    λ i j d le lt. elim (cases_eq i j) [
      | inl same ↦ omega (arith, ap (λ k. (get_or blocks k d).place) same)
      | inr other ↦ omega (arith, apart i j d (omega arith) lt)
    ]

-- what the two searches answer
pub last_found : (blocks : List Block) (a n : ℕ) (o : Option ℕ) → SomeIff o (1 ≤ n) (n - 1) → n ≤ length blocks → IsPartitionPoint (λ (b : Block). leb b.place a ≡ true) (λ (b : Block). leb b.place a ≡ false) blocks n → MatchOption o (NoneBegun blocks a) (IsLastBegun blocks a)
last_found blocks a n None answer bound point = λ k d h. leb-false _ _ (point.1 k d (omega arith) h)
last_found blocks a n (Some i) answer bound point = record {
  within = omega arith;
  begun = λ d. leb-true _ _ (point.0 i d (omega arith) (omega arith));
  later = λ k d low high. leb-false _ _ (point.1 k d (omega arith) high);
}

index_rises : (x y a : ℕ) → x ≤ y → ordering_index (nat_cmp x a) ≤ ordering_index (nat_cmp y a)
index_rises x y a le = grind (arith, nat_tests)

less_differs : (x a : ℕ) → nat_cmp x a ≡ Less → eqb x a ≡ false
less_differs x a is = grind (arith, nat_tests)

greater_differs : (x a : ℕ) → nat_cmp x a ≡ Greater → eqb x a ≡ false
greater_differs x a is = grind (arith, nat_tests)

pub begin_found : (blocks : List Block) (a : ℕ) (r : Result ℕ ℕ) → AreApart blocks → IsSearchInRange r (length blocks) → IsBinarySearchResult (λ (b : Block). nat_cmp b.place a) blocks r → MatchOption (result_ok r) (NoneBegins blocks a) (BeginsAt blocks a)
begin_found blocks a (Ok i) apart bound answer = record { within = bound; begins = λ d. grind (arith, nat_tests, answer d) }
begin_found blocks a (Err i) apart bound answer =
    let point : IsPartitionPoint (λ (b : Block). nat_cmp b.place a ≡ Less) (λ (b : Block). nat_cmp b.place a ≡ Greater) blocks i =
    answer (λ j k d le lt. index_rises _ _ a (rising blocks apart j k d le lt)) in
    λ k d h. elim (cases_lt k i) [
      | inl below ↦ less_differs _ a (point.0 k d (omega arith) below)
      | inr above ↦ greater_differs _ a (point.1 k d above h)
    ]

-- the heap without the block that begins at an address, or without any
pub free_at : (blocks : List Block) (next a i : ℕ) → AreApart blocks → BeginsAt blocks a i → record { blocks = remove blocks i; next = next } ≡ without_block (record { blocks = blocks; next = next }) a
free_at blocks next a i apart at =
    let any : Block = record { place = 0; size = 0 } in
    let rest : filter (λ (b : Block). not (eqb b.place a)) blocks ≡ remove blocks i =
    filter_alone (λ (b : Block). eqb b.place a) blocks i any at.within (eq-eqb _ _ (at.begins any)) (begins_alone blocks a i apart at) in
    ap (λ (l : List Block). record { blocks = l; next = next }) (sym rest)

pub free_none : (heap : Heap) (a : ℕ) → NoneBegins heap.blocks a → heap ≡ without_block heap a
free_none heap a none = ap (λ (l : List Block). record { blocks = l; next = heap.next }) (sym (filter_all (λ (b : Block). eqb b.place a) heap.blocks none))
