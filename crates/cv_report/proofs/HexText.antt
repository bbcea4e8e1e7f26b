-- The digits that the library writes are those of the definition.
use Rattle.std.proofs.Common.{◌≡◌, ℕ, zero, suc, Bool, true, ◌&&◌, ◌==◌, ◌<◌, ◌/◌, ◌%◌, List, [], ◌∷◌, slice_index, refl, arith, inl, inr}
use Rattle.std.proofs.lemmas.Bool.{and_parts, cases_lt, eqb-true}
use Rattle.std.specs.Prelude.{false}
use Rattle.std.specs.Fmt.{digit_glyph}
use Rattle.hex.specs.Hex.{encode_with, encode_lower, lower_digits}
use Rattle.cv_runs.specs.PlainText.{hex_text}

-- the test of the first n places, which computes
abbrev all_same : ℕ → Bool
all_same zero = true
all_same (suc n) = (slice_index lower_digits n == digit_glyph false n) && all_same n

all_same_at : (n d : ℕ) → all_same n ≡ true → d < n → slice_index lower_digits d ≡ digit_glyph false d
all_same_at zero d h below = absurd (omega arith)
all_same_at (suc n) d h below =
    let parts = and_parts (slice_index lower_digits n == digit_glyph false n) (all_same n) h in
    elim (cases_lt d n) [
      | inl less ↦ all_same_at n d parts.1 less
      | inr top ↦ let e : d ≡ n = omega arith in rw e (eqb-true _ _ parts.0)
    ]

pub encoded : (bytes : List ℕ) → ((i : ℕ) → slice_index bytes i < 256) → encode_lower bytes ≡ hex_text bytes
unfolding encode_with
encoded [] small = refl
encoded (b ∷ bytes) small =
    let byte : b < 256 = small 0 in
    let high = all_same_at 16 (b / 16) refl (omega arith) in
    let low = all_same_at 16 (b % 16) refl (omega arith) in
    let rest = encoded bytes (λ i. small (suc i)) in
    cc
