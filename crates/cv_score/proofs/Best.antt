-- The first of highest score, number by number.
use Rattle.std.proofs.Common.{◌≡◌, ℕ, suc, ◌+◌, ◌-◌, ◌<◌, Bool, false, ℤ, sym, ap, ◌∙◌, arith}
use Rattle.std.specs.Prelude.{if◌then◌else◌, int_lt}
use Rattle.std.proofs.lemmas.Int.{ints, to_z-of_z}
use mir.Syntax.{w64}
use mir.Val.{SFits, to_z, of_z}
use Rattle.cv_histories.specs.Scores.{best_from}

not_itself : (a : ℤ) → int_lt a a ≡ false
not_itself a = grind (arith, ints)

-- numbers are compared by their bits
by_bits : (a b : ℤ) → SFits w64 a → SFits w64 b → int_lt a b ≡ int_lt (to_z w64 (of_z w64 a)) (to_z w64 (of_z w64 b))
by_bits a b fits fits_too =
    sym (ap (λ a. int_lt a (to_z w64 (of_z w64 b))) (to_z-of_z w64 a fits) ∙ ap (λ b. int_lt a b) (to_z-of_z w64 b fits_too))

module _ (score_at : ℕ → ℤ) where
  best_more : (top j n : ℕ) → j < n → (b : Bool) → int_lt (score_at top) (score_at j) ≡ b → best_from score_at top j (n - j) ≡ best_from score_at (if b then j else top) (j + 1) (n - (j + 1))
  best_more top j n left b is =
      let fewer : n - j ≡ suc (n - (j + 1)) = omega arith in
      rw fewer (ap (λ (b : Bool). best_from score_at (if b then j else top) (j + 1) (n - (j + 1))) is)

  -- the first number is the best one so far
  pub best_first : (n : ℕ) → 0 < n → best_from score_at 0 1 (n - 1) ≡ best_from score_at 0 0 n
  best_first n some =
      let all : n - 0 ≡ n = omega arith in
      sym (rw all at (best_more 0 0 n some false (not_itself (score_at 0))))

  -- one number on, where its score, b, was compared with the best one's, a
  pub best_compared : (top j n : ℕ) (a b : ℤ) (higher : Bool) → j < n → SFits w64 a → SFits w64 b → a ≡ score_at top → b ≡ score_at j → int_lt (to_z w64 (of_z w64 a)) (to_z w64 (of_z w64 b)) ≡ higher → best_from score_at top j (n - j) ≡ best_from score_at (if higher then j else top) (j + 1) (n - (j + 1))
  best_compared top j n a b higher left fits fits_too at_top at_j compared =
      best_more top j n left higher (ap (λ a. int_lt a (score_at j)) (sym at_top) ∙ ap (λ b. int_lt a b) (sym at_j) ∙ by_bits a b fits fits_too ∙ compared)
