-- A set of registers: its first member, and a member taken out.
use Rattle.std.proofs.Common.{◌≡◌, ℕ, zero, suc, max, ◌*◌, ◌%◌, ◌-◌, ◌^◌, ◌<◌, ◌≤◌, Bool, true, false, ◌&&◌, ◌||◌, not, eqb, ◌==◌, ◌∙◌, refl, ap, sym, ⊎_elim, arith}
use Rattle.std.proofs.lemmas.Bool.{cases_eq, cases_lt}
use Rattle.std.proofs.lemmas.Bool.Decides.{nat_tests}
use Rattle.std.proofs.lemmas.Nat.{and_le_l}
use Rattle.std.proofs.lemmas.Nat.Bits.{bit_at-trailing_zeros, bit_at_clear_same, bit_at_clear_other, bit_at_above, bit_at_or, bit_at-lt}
use Rattle.std.specs.Int.{bit_at, trailing_zeros, w32}
use Rattle.std.specs.Int.Bits.{bit_and, bit_or}
use Rattle.cv_isa.specs.Uses.{has}
use Rattle.cv_isa.specs.declared.registers.RegSet.{RegSet}
use Rattle.cv_observe.proofs.Narrowing.{and_false, last_test, or_alone}

module _ (set : RegSet) (small : set.bits < 2 ^ 32) where
  pub first_there : (set.bits ≡ 0 → ⊥) → (trailing_zeros w32 set.bits < 32) × (has set (trailing_zeros w32 set.bits) ≡ true)
  first_there some =
      let there = bit_at-trailing_zeros w32 set.bits (grind (arith, nat_tests, some)) small in
      (there.0, ap (λ n. eqb n 1) there.1)

  module _ (k : ℕ) (within : k < 32) where
    abbrev rest : ℕ
    rest = bit_and set.bits (4294967295 - 1 * 2 ^ k % 4294967296)

    rest_low : rest ≤ set.bits
    rest_low = and_le_l set.bits (4294967295 - 1 * 2 ^ k % 4294967296)

    out : bit_at rest k ≡ 0
    out = bit_at_clear_same w32 set.bits k within

    others_stay : (r : ℕ) → (r ≡ k → ⊥) → bit_at rest r ≡ bit_at set.bits r
    others_stay r other =
        ⊎_elim
        (λ low. bit_at_clear_other w32 set.bits k within r low other)
        (λ high. let low = rest_low in bit_at_above rest 32 r (omega (arith, small)) (omega arith) ∙ sym (bit_at_above set.bits 32 r small (omega arith)))
        (cases_lt r 32)

    pub others : (r : ℕ) → eqb (bit_at rest r) 1 ≡ (has set r && not (r == k))
    others r =
        ⊎_elim
        (λ same. let e : (r == k) ≡ true = grind (arith, nat_tests) in
        ap (λ n. eqb n 1) (ap (λ i. bit_at rest i) same ∙ out) ∙ sym (and_false (has set r)) ∙ ap (λ t. has set r && not t) (sym e))
        (λ other. let e : (r == k) ≡ false = grind (arith, nat_tests) in
        ap (λ n. eqb n 1) (others_stay r other) ∙ sym (last_test (has set r)) ∙ ap (λ t. has set r && not t) (sym e))
        (cases_eq r k)

    there_not : has set k ≡ true → set.bits ≤ rest → ⊥
    there_not there all =
        let low = rest_low in
        let same : rest ≡ set.bits = omega arith in
        let none : has set k ≡ false = ap (λ n. eqb n 1) (ap (λ n. bit_at n k) (sym same) ∙ out) in
        absurd (cc (there, none))

    pub fewer : has set k ≡ true → rest < set.bits
    fewer there =
        ⊎_elim
        (λ less. less)
        (λ all. absurd (there_not there all))
        (cases_lt rest set.bits)

-- ---- two sets together

bits_either : (x y : ℕ) → x < 2 → y < 2 → eqb (max x y) 1 ≡ (eqb x 1 || eqb y 1)
bits_either zero zero hx hy = refl
bits_either zero (suc zero) hx hy = refl
bits_either zero (suc (suc y)) hx hy = absurd (omega arith)
bits_either (suc zero) zero hx hy = refl
bits_either (suc zero) (suc zero) hx hy = refl
bits_either (suc zero) (suc (suc y)) hx hy = absurd (omega arith)
bits_either (suc (suc x)) y hx hy = absurd (omega arith)

pub either_members : (set other new : RegSet) → new.bits ≡ bit_or set.bits other.bits → (r : ℕ) → has new r ≡ (has set r || has other r)
either_members set other new is r =
    ap (λ n. eqb (bit_at n r) 1) is
    ∙ ap (λ n. eqb n 1) (bit_at_or set.bits other.bits r)
    ∙ bits_either (bit_at set.bits r) (bit_at other.bits r) (bit_at-lt set.bits r) (bit_at-lt other.bits r)

-- ---- a set narrowed to the members that pass a test, one member after the other

stays : (s t l e : Bool) → (e ≡ true → t ≡ true) → (s && (t || l)) ≡ (s && (t || (l && not e)))
stays s true l e why = refl
stays s false l false why = ap (λ x. s && x) (sym (last_test l))
stays s false l true why = absurd (cc (why refl))

goes : (s t l e : Bool) → (e ≡ true → t ≡ false) → ((s && (t || l)) && not e) ≡ (s && (t || (l && not e)))
goes s t l false why = last_test (s && (t || l)) ∙ ap (λ x. s && (t || x)) (sym (last_test l))
goes s true l true why = absurd (cc (why refl))
goes s false l true why = and_false (s && l) ∙ sym (and_false s) ∙ ap (λ x. s && x) (sym (and_false l))

at_start : (s t : Bool) → s ≡ (s && (t || s))
at_start true true = refl
at_start true false = refl
at_start false t = refl

-- the members that pass, and those that are still to be tried
pub Narrowed : RegSet → (ℕ → Bool) → RegSet → RegSet → Type 0
Narrowed set test left kept = (r : ℕ) → has kept r ≡ (has set r && (test r || has left r))

module _ (set : RegSet) (test : ℕ → Bool) where
  pub narrowed_none : Narrowed set test set set
  unfolding Narrowed
  narrowed_none r = at_start (has set r) (test r)

  tested : (b r : ℕ) (t : Bool) → test b ≡ t → (r == b) ≡ true → test r ≡ t
  tested b r t is same = let e : r ≡ b = grind (arith, nat_tests) in ap test e ∙ is

  pub narrowed_with : (left after kept : RegSet) (b : ℕ) → ((r : ℕ) → has after r ≡ (has left r && not (r == b))) → test b ≡ true → Narrowed set test left kept → Narrowed set test after kept
  unfolding Narrowed
  narrowed_with left after kept b out is before r =
      before r ∙ stays (has set r) (test r) (has left r) (r == b) (tested b r true is) ∙ ap (λ l. has set r && (test r || l)) (sym (out r))

  pub narrowed_without : (left after kept new : RegSet) (b : ℕ) → ((r : ℕ) → has after r ≡ (has left r && not (r == b))) → ((r : ℕ) → has new r ≡ (has kept r && not (r == b))) → test b ≡ false → Narrowed set test left kept → Narrowed set test after new
  unfolding Narrowed
  narrowed_without left after kept new b out gone is before r =
      gone r ∙ ap (λ k. k && not (r == b)) (before r) ∙ goes (has set r) (test r) (has left r) (r == b) (tested b r false is) ∙ ap (λ l. has set r && (test r || l)) (sym (out r))

  pub narrowed_all : (left kept : RegSet) → ((r : ℕ) → has left r ≡ false) → Narrowed set test left kept → (r : ℕ) → has kept r ≡ (has set r && test r)
  unfolding Narrowed
  narrowed_all left kept none all r =
      all r ∙ ap (λ l. has set r && (test r || l)) (none r) ∙ ap (λ t. has set r && t) (or_alone (test r))
