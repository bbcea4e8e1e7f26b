-- Numbers in a row: the one at a place, and searches through them.
use Rattle.std.proofs.Common.{◌≡◌, ◌≤◌, ◌<◌, ◌+◌, ◌-◌, ℕ, zero, suc, Bool, true, false, Some, None, refl, ap, ◌∙◌, arith}
use Rattle.std.specs.Prelude.{◌&&◌, find, if◌then◌else◌, slice_get}
use Rattle.std.specs.List.{list_all, range_with_len}

-- the number at a place
pub at_place : (a n k : ℕ) → k < n → slice_get (range_with_len a n) k ≡ Some (a + k)
at_place a zero k below = absurd (omega arith)
at_place a (suc n) zero below = ap Some (omega arith)
at_place a (suc n) (suc k) below = at_place (a + 1) n k (omega arith) ∙ ap Some (omega arith)

-- behind the last place there is none
pub no_place : (a n k : ℕ) → n ≤ k → slice_get (range_with_len a n) k ≡ None
no_place a zero k above = refl
no_place a (suc n) zero above = absurd (omega arith)
no_place a (suc n) (suc k) above = no_place (a + 1) n k (omega arith)

-- a and those behind it, up to an end
one_and_rest : (a end : ℕ) → a < end → range_with_len a (end - a) ≡ range_with_len a (suc (end - (a + 1)))
one_and_rest a end below = let more : end - a ≡ suc (end - (a + 1)) = omega arith in ap (range_with_len a) more

-- at the end none is left
nothing_left : (a end : ℕ) → end ≤ a → range_with_len a (end - a) ≡ range_with_len a 0
nothing_left a end above = let none : end - a ≡ 0 = omega arith in ap (range_with_len a) none

-- ---- whether all pass a test

-- where the first one passes, the rest decide
pub all_on : (test : ℕ → Bool) (a end : ℕ) → a < end → test a ≡ true → list_all test (range_with_len a (end - a)) ≡ list_all test (range_with_len (a + 1) (end - (a + 1)))
all_on test a end below passes = ap (list_all test) (one_and_rest a end below) ∙ ap (λ b. b && list_all test (range_with_len (a + 1) (end - (a + 1)))) passes

-- where it does not, not all do
pub all_stops : (test : ℕ → Bool) (a end : ℕ) → a < end → test a ≡ false → list_all test (range_with_len a (end - a)) ≡ false
all_stops test a end below fails = ap (list_all test) (one_and_rest a end below) ∙ ap (λ b. b && list_all test (range_with_len (a + 1) (end - (a + 1)))) fails

-- none fails where none is left
pub all_pass : (test : ℕ → Bool) (a end : ℕ) → end ≤ a → list_all test (range_with_len a (end - a)) ≡ true
all_pass test a end above = ap (list_all test) (nothing_left a end above)

-- ---- the first that passes a test

-- where the first one does not pass, it is found among the rest
pub find_on : (test : ℕ → Bool) (a end : ℕ) → a < end → test a ≡ false → find test (range_with_len a (end - a)) ≡ find test (range_with_len (a + 1) (end - (a + 1)))
find_on test a end below fails = ap (find test) (one_and_rest a end below) ∙ ap (λ b. if b then Some a else find test (range_with_len (a + 1) (end - (a + 1)))) fails
