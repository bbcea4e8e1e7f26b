-- The least of some words and the pairs of registers that hold, with one observation more, and of
-- two lists together.
use Rattle.std.proofs.Common.{◌≡◌, ℕ, zero, suc, ◌+◌, ◌<◌, ◌≤◌, ◌^◌, Bool, true, false, cond, ◌&&◌, ◌||◌, not, eqb, min, List, [], ◌∷◌, ◌++◌, ◌∙◌, Some, None, refl, sym, ap, fold, ⊎_elim, arith}
use Rattle.std.proofs.lemmas.Bool.Decides.{nat_tests}
use Rattle.std.proofs.lemmas.List.Folds.{list_all-append}
use Rattle.std.proofs.lemmas.List.Sums.{fold-append}
use Rattle.std.proofs.lemmas.Nat.Bits.{bit_at-lt, bit_at_and}
use Rattle.std.specs.Int.{w32, cast_signed, bit_at}
use Rattle.std.specs.Int.Bits.{bit_and}
use Rattle.std.specs.Prelude.{ℤ, pos, negsuc, int_lt}
use Rattle.cv_base.specs.declared.entries.Observation.{Observation}
use Rattle.cv_base.specs.Registers.{register}
use Rattle.cv_isa.specs.Uses.{has}
use Rattle.cv_isa.specs.declared.registers.RegSet.{RegSet}
use Rattle.cv_runs.specs.Arithmetic.{signed_lt}
use Rattle.cv_runs.specs.Invariants.{signed_le}
use Rattle.cv_runs.specs.Learned.{is_ordered, lesser}
use Rattle.cv_observe.specs.Kept.{AreAbove, AreBelow, least_of, lesser_of}

-- the order of integers

lower_lower : (x y z : ℤ) → int_lt x y ≡ true → int_lt y z ≡ true → int_lt x z ≡ true
lower_lower (pos a) (pos b) (pos c) = grind (arith, nat_tests)
lower_lower (pos a) (pos b) (negsuc c) = λ e f. cc
lower_lower (pos a) (negsuc b) z = λ e f. cc
lower_lower (negsuc a) (pos b) (pos c) = λ e f. refl
lower_lower (negsuc a) (pos b) (negsuc c) = λ e f. cc
lower_lower (negsuc a) (negsuc b) (pos c) = λ e f. refl
lower_lower (negsuc a) (negsuc b) (negsuc c) = grind (arith, nat_tests)

not_lower : (x y z : ℤ) → int_lt x y ≡ false → int_lt y z ≡ false → int_lt x z ≡ false
not_lower (pos a) (pos b) (pos c) = grind (arith, nat_tests)
not_lower (pos a) (pos b) (negsuc c) = λ e f. refl
not_lower (pos a) (negsuc b) (pos c) = λ e f. cc
not_lower (pos a) (negsuc b) (negsuc c) = λ e f. refl
not_lower (negsuc a) (pos b) z = λ e f. cc
not_lower (negsuc a) (negsuc b) (pos c) = λ e f. cc
not_lower (negsuc a) (negsuc b) (negsuc c) = grind (arith, nat_tests)

-- the lesser of two

take_second : (a b : ℕ) → signed_lt b a ≡ true → lesser a b ≡ b
take_second a b h = ap (λ (t : Bool). cond t b a) h

take_first : (a b : ℕ) → signed_lt b a ≡ false → lesser a b ≡ a
take_first a b h = ap (λ (t : Bool). cond t b a) h

module _ (a b c : ℕ) where
  -- by whether b is below a and c below b
  grouped : (s t : Bool) → signed_lt b a ≡ s → signed_lt c b ≡ t → lesser (cond s b a) c ≡ lesser a (cond t c b)
  grouped true true low less =
      take_second b c less ∙ sym (take_second a c (lower_lower (cast_signed w32 c) (cast_signed w32 b) (cast_signed w32 a) less low))
  grouped true false low less = take_first b c less ∙ sym (take_second a b low)
  grouped false true low less = refl
  grouped false false low less =
      take_first a c (not_lower (cast_signed w32 c) (cast_signed w32 b) (cast_signed w32 a) less low) ∙ sym (take_first a b low)

  pub lesser_grouped : lesser (lesser a b) c ≡ lesser a (lesser b c)
  lesser_grouped = grouped (signed_lt b a) (signed_lt c b) refl refl

fold_lesser : (a b : ℕ) (ys : List ℕ) → fold lesser (lesser a b) ys ≡ lesser a (fold lesser b ys)
fold_lesser a b [] = refl
fold_lesser a b (y ∷ ys) = ap (λ t. fold lesser t ys) (lesser_grouped a b y) ∙ fold_lesser a (lesser b y) ys

not_true : (t : Bool) → not t ≡ true → t ≡ false
not_true true e = sym e
not_true false e = refl

not_false : (t : Bool) → not t ≡ false → t ≡ true
not_false true e = refl
not_false false e = sym e

-- the least of two lists is the lesser of the leasts
pub least_joined : (xs ys : List ℕ) → least_of (xs ++ ys) ≡ lesser_of (least_of xs) (least_of ys)
least_joined [] ys = refl
least_joined (x ∷ xs) [] = ap Some (fold-append lesser x xs [])
least_joined (x ∷ xs) (y ∷ ys) = ap Some (fold-append lesser x xs (y ∷ ys) ∙ fold_lesser (fold lesser x xs) y ys)

-- with one number more, by whether it is less than the least so far

module _ (known v : ℕ) (xs : List ℕ) (is : Some known ≡ least_of xs) where
  pub least_stays : not (signed_lt v known) ≡ true → Some known ≡ least_of (xs ++ v ∷ [])
  least_stays up =
      let e : signed_lt v known ≡ false = not_true (signed_lt v known) up in
      ap Some (sym (take_first known v e)) ∙ ap (λ t. lesser_of t (Some v)) is ∙ sym (least_joined xs (v ∷ []))

  pub least_goes : not (signed_lt v known) ≡ false → Some v ≡ least_of (xs ++ v ∷ [])
  least_goes down =
      let e : signed_lt v known ≡ true = not_false (signed_lt v known) down in
      ap Some (sym (take_second known v e)) ∙ ap (λ t. lesser_of t (Some v)) is ∙ sym (least_joined xs (v ∷ []))

pub least_begins : (v : ℕ) (xs : List ℕ) → None ≡ least_of xs → Some v ≡ least_of (xs ++ v ∷ [])
least_begins v xs none = ap (λ t. lesser_of t (Some v)) none ∙ sym (least_joined xs (v ∷ []))

-- pairs of two lists

pub ordered_joined : (xs ys : List Observation) (a b : ℕ) → is_ordered (xs ++ ys) a b ≡ (is_ordered xs a b && is_ordered ys a b)
ordered_joined xs ys a b = list_all-append (λ (o : Observation). signed_le (register o.regs a) (register o.regs b)) xs ys

pub last_test : (t : Bool) → (t && true) ≡ t
last_test true = refl
last_test false = refl

pub or_alone : (p : Bool) → (p || false) ≡ p
or_alone true = refl
or_alone false = refl

pub and_false : (t : Bool) → (t && false) ≡ false
and_false true = refl
and_false false = refl

kept_on : (w s t : Bool) → ((w && s) && t) ≡ (w && (s && t))
kept_on true s t = refl
kept_on false s t = refl

kept_both : (w s t : Bool) → ((w && s) && (w && t)) ≡ (w && (s && t))
kept_both true s t = refl
kept_both false s t = refl

module _ (window : ℕ → Bool) (r : ℕ) (here : List Observation) (o : Observation) (set new : RegSet) where
  pub above_more : AreAbove window r here set → ((b : ℕ) → has new b ≡ (has set b && signed_le (register o.regs r) (register o.regs b))) → AreAbove window r (here ++ o ∷ []) new
  above_more so_far narrowed b =
      let t : Bool = signed_le (register o.regs r) (register o.regs b) in
      narrowed b ∙ ap (λ s. s && t) (so_far b) ∙ kept_on (window b) (is_ordered here r b) t
      ∙ ap (λ s. window b && s) (ap (λ s. is_ordered here r b && s) (sym (last_test t)) ∙ sym (ordered_joined here (o ∷ []) r b))

  pub below_more : AreBelow window r here set → ((b : ℕ) → has new b ≡ (has set b && signed_le (register o.regs b) (register o.regs r))) → AreBelow window r (here ++ o ∷ []) new
  below_more so_far narrowed b =
      let t : Bool = signed_le (register o.regs b) (register o.regs r) in
      narrowed b ∙ ap (λ s. s && t) (so_far b) ∙ kept_on (window b) (is_ordered here b r) t
      ∙ ap (λ s. window b && s) (ap (λ s. is_ordered here b r && s) (sym (last_test t)) ∙ sym (ordered_joined here (o ∷ []) b r))

module _ (window : ℕ → Bool) (r : ℕ) (xs ys : List Observation) (set other new : RegSet) (common : (b : ℕ) → has new b ≡ (has set b && has other b)) where
  pub above_joined : AreAbove window r xs set → AreAbove window r ys other → AreAbove window r (xs ++ ys) new
  above_joined here there b =
      common b ∙ ap (λ s. s && has other b) (here b) ∙ ap (λ s. (window b && is_ordered xs r b) && s) (there b)
      ∙ kept_both (window b) (is_ordered xs r b) (is_ordered ys r b) ∙ ap (λ s. window b && s) (sym (ordered_joined xs ys r b))

  pub below_joined : AreBelow window r xs set → AreBelow window r ys other → AreBelow window r (xs ++ ys) new
  below_joined here there b =
      common b ∙ ap (λ s. s && has other b) (here b) ∙ ap (λ s. (window b && is_ordered xs b r) && s) (there b)
      ∙ kept_both (window b) (is_ordered xs b r) (is_ordered ys b r) ∙ ap (λ s. window b && s) (sym (ordered_joined xs ys b r))

pub all_of_window : (window : ℕ → Bool) (b : ℕ) → window b ≡ (window b && true)
all_of_window window b = sym (last_test (window b))

-- sets of registers

bits_both : (x y : ℕ) → x < 2 → y < 2 → eqb (min x y) 1 ≡ (eqb x 1 && eqb y 1)
bits_both zero zero hx hy = refl
bits_both zero (suc zero) hx hy = refl
bits_both zero (suc (suc y)) hx hy = absurd (omega arith)
bits_both (suc zero) zero hx hy = refl
bits_both (suc zero) (suc zero) hx hy = refl
bits_both (suc zero) (suc (suc y)) hx hy = absurd (omega arith)
bits_both (suc (suc x)) y hx hy = absurd (omega arith)

pub common_members : (set other new : RegSet) → new.bits ≡ bit_and set.bits other.bits → (r : ℕ) → has new r ≡ (has set r && has other r)
common_members set other new is r =
    ap (λ n. eqb (bit_at n r) 1) is
    ∙ ap (λ n. eqb n 1) (bit_at_and set.bits other.bits r)
    ∙ bits_both (bit_at set.bits r) (bit_at other.bits r) (bit_at-lt set.bits r) (bit_at-lt other.bits r)
