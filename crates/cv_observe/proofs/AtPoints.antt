-- What is kept at a point, with one observation more, and of two lists together.
use Rattle.std.proofs.Common.{◌≡◌, ℕ, ◌+◌, ◌^◌, ◌<◌, Bool, true, false, ◌&&◌, ◌||◌, List, [], ◌∷◌, ◌++◌, ◌∙◌, refl, sym, ap, subst, length, get_or, set, ◌≢◌, ◌≤◌, get_or-set_other, get_or-set_same, ⊎_elim, take, map, length-append, arith}
use Rattle.std.proofs.lemmas.Bool.{cases_lt}
use Rattle.std.proofs.lemmas.List.{map-append, length-set, get_or_default}
use Rattle.std.proofs.lemmas.List.Elements.{All-append, All-from_recursion}
use Rattle.std.proofs.Math.Seq.{take-append_seam}
use Rattle.std.specs.List.{All}
use Rattle.cv_base.specs.declared.entries.Observation.{Observation}
use Rattle.cv_base.specs.Registers.{register}
use Rattle.cv_observe.proofs.AnyOrder.{and_alone, and_joined}
use Rattle.cv_observe.proofs.EachPlace.{Each, parts_stay}
use Rattle.cv_observe.proofs.Narrowing.{ordered_joined}
use Rattle.cv_observe.specs.AtPoint.{IsPoint, IsRegister, Joins, Sees, numbers_of, offset_of}
use Rattle.cv_observe.specs.Kept.{IsFew}
use Rattle.cv_observe.specs.declared.point.Point.{Point}
use Rattle.cv_observe.specs.declared.register.Register.{Register}
use Rattle.cv_runs.specs.Invariants.{signed_le}
use Rattle.cv_runs.specs.Learned.{is_ordered, values_of}

-- the values of a register are words, with one more
pub words_more : (r v : ℕ) (here : List Observation) (o : Observation) → v ≡ register o.regs r → v < 2 ^ 32
    → All (λ (n : ℕ). n < 2 ^ 32) (values_of r here) → All (λ (n : ℕ). n < 2 ^ 32) (values_of r (here ++ o ∷ []))
words_more r v here o is fits all =
    let P : ℕ → Type 0 = λ n. n < 2 ^ 32 in
    let part : Observation → ℕ = λ o. register o.regs r in
    subst (All P) (sym (map-append part here (o ∷ []))) (All-append P (values_of r here) (register o.regs r ∷ []) all (All-from_recursion P (register o.regs r ∷ []) (subst P is fits, tt)))

-- a pair of registers in order, with one more
pub ordered_more : (w : Bool) (here : List Observation) (o : Observation) (a b : ℕ) → ((w && is_ordered here a b) && signed_le (register o.regs a) (register o.regs b)) ≡ (w && is_ordered (here ++ o ∷ []) a b)
ordered_more w here o a b =
    let last = signed_le (register o.regs a) (register o.regs b) in
    and_joined w (is_ordered here a b) last
    ∙ ap (λ t. w && (is_ordered here a b && t)) (and_alone last)
    ∙ ap (λ t. w && t) (sym (ordered_joined here (o ∷ []) a b))

-- a vector after a write of all its elements
pub refilled : {X : Type 0} (n : ℕ) (list rest : List X) → length list ≡ n → take n (list ++ rest) ≡ list
refilled n list rest long = ap (λ k. take k (list ++ rest)) (sym long) ∙ take-append_seam list rest

-- the registers below a place are seen once more, and the others are left
abbrev pub SeenTo : List ℕ → List Register → ℕ → List Register → Type 0
SeenTo regs old n list = Each (λ x a b. Sees a b regs) old n list

pub numbers_stay : (regs : List ℕ) (old : List Register) (n : ℕ) (list : List Register) → SeenTo regs old n list → All (λ r. r.number < 32) old → All (λ r. r.number < 32) list
numbers_stay regs old n list each all x d within =
    let long = each.length in
    let below = all x d (omega arith) in
    ⊎_elim
    (λ low. let same = (each.done x low d).number in omega arith)
    (λ high. let same = ap (λ (k : Register). k.number) (each.left x high d) in omega arith)
    (cases_lt x n)

-- those from a place up to another one are seen once more, and the others are left
pub record SeenFrom (regs : List ℕ) (old : List Register) (from n : ℕ) (list : List Register) : Type 0 where
  pub length : length list ≡ length old
  pub before : (x : ℕ) (d : Register) → x < from → get_or list x d ≡ get_or old x d
  pub done : (x : ℕ) (d : Register) → from ≤ x → x < n → Sees (get_or old x d) (get_or list x d) regs
  pub left : (x : ℕ) (d : Register) → n ≤ x → get_or list x d ≡ get_or old x d

module _ (regs : List ℕ) (old : List Register) (from : ℕ) where
  pub seen_from_none : SeenFrom regs old from from old
  seen_from_none = record { length = refl; before = λ x d h. refl; done = λ x d h g. absurd (omega arith); left = λ x d h. refl }

  pub seen_from_more : (n : ℕ) (list : List Register) (e y : Register) → from ≤ n → n < length list → SeenFrom regs old from n list → Sees (get_or list n e) y regs → SeenFrom regs old from (n + 1) (set list n y)
  seen_from_more n list e y above within seen changed = record {
    length = length-set list n y ∙ seen.length;
    before = λ x d h. let ne : x ≢ n = omega arith in get_or-set_other list n x y d ne ∙ seen.before x d h;
    done = λ x d h g.
        ⊎_elim
        (λ low. let ne : x ≢ n = omega arith in subst (λ b. Sees (get_or old x d) b regs) (sym (get_or-set_other list n x y d ne)) (seen.done x d h low))
        (λ high.
        let same : n ≡ x = omega arith in
        let here : get_or list n e ≡ get_or old n d = get_or_default list n e d within ∙ seen.left n d (omega arith) in
        subst (λ k. Sees (get_or old k d) (get_or (set list n y) k d) regs) same
        (subst (λ b. Sees (get_or old n d) b regs) (sym (get_or-set_same list n y d within)) (subst (λ a. Sees a y regs) here changed)))
        (cases_lt x n);
    left = λ x d h. let ne : x ≢ n = omega arith in get_or-set_other list n x y d ne ∙ seen.left x d (omega arith);
  }

  pub number_there : (n : ℕ) (list : List Register) (e : Register) → n < length list → SeenFrom regs old from n list → All (λ r. r.number < 32) old → (get_or list n e).number < 32
  number_there n list e within seen all =
      let long = seen.length in
      let below = all n e (omega arith) in
      let same = ap (λ (k : Register). k.number) (seen.left n e (omega arith)) in
      omega arith

module _ (old list : List Register) (regs : List ℕ) (long : length list ≡ length old) (each : (x : ℕ) (d : Register) → x < length old → Sees (get_or old x d) (get_or list x d) regs) where
  pub sees_numbers : numbers_of list ≡ numbers_of old
  sees_numbers = parts_stay (λ (k : Register). k.number) old list long (λ x d within. (each x d within).number)

  sees_all : (window : ℕ → Bool) (here : List Observation) (o : Observation) → o.regs ≡ regs → All (λ r. IsRegister window r here) old → All (λ r. IsRegister window r (here ++ o ∷ [])) list
  sees_all window here o same all x d within =
      let inside : x < length old = omega arith in (each x d inside).kept window here o same (all x d inside)

  pub point_sees : (k new : Point) (offset : ℕ) → k.registers.items ≡ old → new.registers.items ≡ list → new.seen ≡ true
      → ((numbers : List ℕ) → IsFew 1 k.offsets.numbers.items k.offsets.more numbers → IsFew 1 new.offsets.numbers.items new.offsets.more (numbers ++ offset ∷ []))
      → (window : ℕ → Bool) (here : List Observation) (o : Observation) → o.regs ≡ regs → offset ≡ offset_of o → IsPoint window k here → IsPoint window new (here ++ o ∷ [])
  point_sees k new offset were are seen adds window here o same is point = record {
    unseen = λ e. cc;
    seen = λ e. let l = length-append here (o ∷ []) in omega arith;
    offsets = subst (λ l. IsFew 1 new.offsets.numbers.items new.offsets.more l) (ap (λ v. map offset_of here ++ v ∷ []) is ∙ sym (map-append offset_of here (o ∷ []))) (adds (map offset_of here) point.offsets);
    registers = subst (All (λ r. IsRegister window r (here ++ o ∷ []))) (sym are) (sees_all window here o same (subst (All (λ r. IsRegister window r here)) were point.registers));
  }

module _ (old others list : List Register) (long : length list ≡ length old) (as_long : length others ≡ length old) (each : (x : ℕ) (d : Register) → x < length old → Joins (get_or old x d) (get_or others x d) (get_or list x d)) where
  pub joins_numbers : numbers_of list ≡ numbers_of old
  joins_numbers = parts_stay (λ (k : Register). k.number) old list long (λ x d within. (each x d within).number)

  joins_all : (window : ℕ → Bool) (xs ys : List Observation) → All (λ r. IsRegister window r xs) old → All (λ r. IsRegister window r ys) others → All (λ r. IsRegister window r (xs ++ ys)) list
  joins_all window xs ys all more x d within =
      let inside : x < length old = omega arith in
      let there : x < length others = omega arith in
      (each x d inside).kept window xs ys (all x d inside) (more x d there)

  none_of : (a b : Bool) → (a || b) ≡ false → (a ≡ false) × (b ≡ false)
  none_of false false e = (refl, refl)
  none_of false true e = (refl, e)
  none_of true b e = (e, cc)

  some_of : (a b : Bool) (m n : ℕ) → (a ≡ true → 0 < m) → (b ≡ true → 0 < n) → (a || b) ≡ true → 0 < m + n
  some_of true b m n f g e = let h = f refl in omega arith
  some_of false b m n f g e = let h = g e in omega arith

  pub point_joins : (k other new : Point) → k.registers.items ≡ old → other.registers.items ≡ others → new.registers.items ≡ list → new.seen ≡ (k.seen || other.seen)
      → ((xs ys : List ℕ) → IsFew 1 k.offsets.numbers.items k.offsets.more xs → IsFew 1 other.offsets.numbers.items other.offsets.more ys → IsFew 1 new.offsets.numbers.items new.offsets.more (xs ++ ys))
      → (window : ℕ → Bool) (xs ys : List Observation) → IsPoint window k xs → IsPoint window other ys → IsPoint window new (xs ++ ys)
  point_joins k other new were there are seen adds window xs ys a b = record {
    unseen = λ e. let both = none_of k.seen other.seen (sym seen ∙ e) in ap (λ l. l ++ ys) (a.unseen both.0) ∙ b.unseen both.1;
    seen = λ e. let l = length-append xs ys in let h = some_of k.seen other.seen (length xs) (length ys) a.seen b.seen (sym seen ∙ e) in omega arith;
    offsets = subst (λ l. IsFew 1 new.offsets.numbers.items new.offsets.more l) (sym (map-append offset_of xs ys)) (adds (map offset_of xs) (map offset_of ys) a.offsets b.offsets);
    registers = subst (All (λ r. IsRegister window r (xs ++ ys))) (sym are) (joins_all window xs ys (subst (All (λ r. IsRegister window r xs)) were a.registers) (subst (All (λ r. IsRegister window r ys)) there b.registers));
  }
