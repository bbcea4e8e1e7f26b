-- How many words bytes spell, and that bytes past the last whole word do not matter.
use Rattle.std.proofs.Common.{◌≡◌, ◌≤◌, ℕ, suc, ◌+◌, ◌*◌, ◌/◌, List, [], ◌∷◌, ◌++◌, length, take, drop, refl, ap, arith}
use Rattle.std.proofs.lemmas.List.{drop-append-le, take-append-le}
use Rattle.cv_base.specs.WellFormed.{words_of}

pub length_words : (bytes : List ℕ) → length (words_of bytes) ≡ length bytes / 4
length_words [] = refl
length_words (a ∷ []) = refl
length_words (a ∷ b ∷ []) = refl
length_words (a ∷ b ∷ c ∷ []) = refl
length_words (a ∷ b ∷ c ∷ d ∷ rest) = let e = length_words rest in omega arith

whole : (bytes : List ℕ) → words_of (take (4 * length (words_of bytes)) bytes) ≡ words_of bytes
whole [] = refl
whole (a ∷ []) = refl
whole (a ∷ b ∷ []) = refl
whole (a ∷ b ∷ c ∷ []) = refl
whole (a ∷ b ∷ c ∷ d ∷ rest) =
    let n = length (words_of rest) in
    let four : 4 * suc n ≡ suc (suc (suc (suc (4 * n)))) = omega arith in
    rw four (ap (λ ws. (a + 256 * b + 65536 * c + 16777216 * d) ∷ ws) (whole rest))

-- the words of a part stand in a longer list too
pub words_within : (part more : List ℕ) (skipped : ℕ) → skipped ≤ length part →
    words_of (take (4 * length (words_of (drop skipped part))) (drop skipped (part ++ more))) ≡ words_of (drop skipped part)
words_within part more skipped within =
    let rest = drop skipped part in
    let few : 4 * length (words_of rest) ≤ length rest = omega (arith, length_words rest) in
    rw (drop-append-le skipped part more within, take-append-le (4 * length (words_of rest)) rest more few) (whole rest)
