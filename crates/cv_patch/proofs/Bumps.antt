-- Rows with a key, of which those of one key are counted once more.
use Rattle.std.proofs.Common.{◌≡◌, ℕ, ◌+◌, Bool, true, false, not, cond, ◌&&◌, ◌||◌, eqb, ltb, leb, List, [], ◌∷◌, ◌∙◌, map, refl, ap, arith}
use Rattle.std.specs.List.{list_all, list_any}
use Rattle.std.proofs.lemmas.Bool.{and_parts, and_from, eqb-true, ltb-true, leb-true, le-leb, lt-ltb, not_from_false, or_left, or_right}
use Rattle.std.proofs.lemmas.Bool.Decides.{nat_tests}
use Rattle.std.proofs.lemmas.List.Folds.{list_all-map}

pub all_from_two : {X : Type 0} (p q r : X → Bool) → ((x : X) → p x ≡ true → q x ≡ true → r x ≡ true) → (xs : List X) → list_all p xs ≡ true → list_all q xs ≡ true → list_all r xs ≡ true
all_from_two p q r each [] all both = refl
all_from_two p q r each (x ∷ xs) all both =
    let ps = and_parts (p x) (list_all p xs) all in
    let qs = and_parts (q x) (list_all q xs) both in
    and_from (r x) (list_all r xs) (each x ps.0 qs.0) (all_from_two p q r each xs ps.1 qs.1)

pub all_from : {X : Type 0} (p r : X → Bool) → ((x : X) → p x ≡ true → r x ≡ true) → (xs : List X) → list_all p xs ≡ true → list_all r xs ≡ true
all_from p r each xs all = all_from_two p p r (λ x h _. each x h) xs all all

pub all_same : {X : Type 0} (p q : X → Bool) → ((x : X) → p x ≡ q x) → (xs : List X) → list_all p xs ≡ list_all q xs
all_same p q each [] = refl
all_same p q each (x ∷ xs) = ap (λ b. b && list_all p xs) (each x) ∙ ap (λ b. q x && b) (all_same p q each xs)

flipped : (a b : ℕ) → eqb a b ≡ eqb b a
flipped a b = grind (arith, nat_tests)

-- the two tests of a key, turned round
pub both_flipped : (a b k j : ℕ) → (eqb a k && eqb b j) ≡ (eqb k a && eqb j b)
both_flipped a b k j = ap (λ t. t && eqb b j) (flipped a k) ∙ ap (λ t. eqb k a && t) (flipped b j)

up_one : (m n : ℕ) → leb m n ≡ true → leb m (n + 1) ≡ true
up_one m n h = let le = leb-true m n h in le-leb m (n + 1) (omega arith)

below_one : (m n : ℕ) → leb m n ≡ true → ltb m (n + 1) ≡ true
below_one m n h = let le = leb-true m n h in lt-ltb m (n + 1) (omega arith)

counted : (m n : ℕ) → ltb m (n + 1) ≡ true → leb (m + 1) (n + 1) ≡ true
counted m n h = let lt = ltb-true m (n + 1) h in le-leb (m + 1) (n + 1) (omega arith)

module _ {R : Type 0} (case index count : R → ℕ) where
  -- of a key
  abbrev pub keyed : ℕ → ℕ → R → Bool
  keyed k j r = eqb (case r) k && eqb (index r) j

  -- no count above n, and none of a key at n + 1
  abbrev pub up_to : ℕ → List R → Bool
  up_to n rows = list_all (λ r. leb (count r) n) rows

  abbrev pub has_room : ℕ → ℕ → ℕ → R → Bool
  has_room n k j r = not (keyed k j r) || ltb (count r) (n + 1)

  pub up_to_more : (n : ℕ) (rows : List R) → up_to n rows ≡ true → up_to (n + 1) rows ≡ true
  up_to_more n rows = all_from (λ r. leb (count r) n) (λ r. leb (count r) (n + 1)) (λ r h. up_one (count r) n h) rows

  pub room_from_up_to : (n k j : ℕ) (rows : List R) → up_to n rows ≡ true → list_all (has_room n k j) rows ≡ true
  room_from_up_to n k j rows =
      all_from (λ r. leb (count r) n) (has_room n k j) (λ r h. or_right (not (keyed k j r)) _ (below_one (count r) n h)) rows

  module _ (bump : R → R) (same_case : (r : R) → case (bump r) ≡ case r) (same_index : (r : R) → index (bump r) ≡ index r) (more : (r : R) → count (bump r) ≡ count r + 1) where
    abbrev pub bumped : ℕ → ℕ → R → R
    bumped k j r = cond (keyed k j r) (bump r) r

    keyed_after : (b : Bool) (k j : ℕ) (r : R) → keyed k j (cond b (bump r) r) ≡ keyed k j r
    keyed_after true k j r = ap (λ n. eqb n k && eqb (index (bump r)) j) (same_case r) ∙ ap (λ n. eqb (case r) k && eqb n j) (same_index r)
    keyed_after false k j r = refl

    pub keyed-bumped : (k j k' j' : ℕ) (r : R) → keyed k' j' (bumped k j r) ≡ keyed k' j' r
    keyed-bumped k j k' j' r = keyed_after (keyed k j r) k' j' r

    pub any-bumped : (k j k' j' : ℕ) (rows : List R) → list_any (keyed k' j') (map (bumped k j) rows) ≡ list_any (keyed k' j') rows
    any-bumped k j k' j' [] = refl
    any-bumped k j k' j' (r ∷ rows) =
        ap (λ b. b || list_any (keyed k' j') (map (bumped k j) rows)) (keyed-bumped k j k' j' r)
        ∙ ap (λ b. keyed k' j' r || b) (any-bumped k j k' j' rows)

    limit_after : (b : Bool) (n : ℕ) (r : R) → (not b || ltb (count r) (n + 1)) ≡ true → leb (count r) (n + 1) ≡ true → leb (count (cond b (bump r) r)) (n + 1) ≡ true
    limit_after true n r room low = ap (λ m. leb m (n + 1)) (more r) ∙ counted (count r) n room
    limit_after false n r room low = low

    pub up_to-bumped : (n k j : ℕ) (rows : List R) → list_all (has_room n k j) rows ≡ true → up_to (n + 1) rows ≡ true → up_to (n + 1) (map (bumped k j) rows) ≡ true
    up_to-bumped n k j rows room low =
        list_all-map (λ r. leb (count r) (n + 1)) (bumped k j) rows
        ∙ all_from_two (has_room n k j) (λ r. leb (count r) (n + 1)) (λ r. leb (count (bumped k j r)) (n + 1)) (λ r. limit_after (keyed k j r) n r) rows room low

    other_key : (k j k' j' : ℕ) (r : R) → (eqb k k' && eqb j j') ≡ false → keyed k j r ≡ true → keyed k' j' r ≡ false
    other_key k j k' j' r apart is =
        let parts = and_parts (eqb (case r) k) (eqb (index r) j) is in
        let at_case : case r ≡ k = eqb-true _ _ parts.0 in
        let at_index : index r ≡ j = eqb-true _ _ parts.1 in
        ap (λ n. eqb n k' && eqb (index r) j') at_case ∙ ap (λ n. eqb k k' && eqb n j') at_index ∙ apart

    room_after : (b : Bool) (n k' j' : ℕ) (r : R) → (b ≡ true → keyed k' j' r ≡ false) → has_room n k' j' r ≡ true → has_room n k' j' (cond b (bump r) r) ≡ true
    room_after true n k' j' r other room =
        or_left (not (keyed k' j' (bump r))) _ (not_from_false (keyed k' j' (bump r)) (keyed_after true k' j' r ∙ other refl))
    room_after false n k' j' r other room = room

    pub room-bumped : (n k j k' j' : ℕ) (rows : List R) → (eqb k k' && eqb j j') ≡ false → list_all (has_room n k' j') rows ≡ true → list_all (has_room n k' j') (map (bumped k j) rows) ≡ true
    room-bumped n k j k' j' rows apart room =
        list_all-map (has_room n k' j') (bumped k j) rows
        ∙ all_from (has_room n k' j') (λ r. has_room n k' j' (bumped k j r)) (λ r. room_after (keyed k j r) n k' j' r (other_key k j k' j' r apart)) rows room
