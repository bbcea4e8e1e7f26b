-- How many words bytes spell, and that the bytes past the last whole word do not matter.
use Rattle.std.proofs.Common.{◌≡◌, ℕ, suc, ◌+◌, ◌*◌, ◌/◌, List, [], ◌∷◌, length, take, refl, ap, arith}
use Rattle.cv_base.specs.WellFormed.{words_of}

pub length-words_of : (bytes : List ℕ) → length (words_of bytes) ≡ length bytes / 4
length-words_of [] = refl
length-words_of (a ∷ []) = refl
length-words_of (a ∷ b ∷ []) = refl
length-words_of (a ∷ b ∷ c ∷ []) = refl
length-words_of (a ∷ b ∷ c ∷ d ∷ rest) = let e = length-words_of rest in omega arith

pub words_of-whole : (bytes : List ℕ) → words_of (take (4 * length (words_of bytes)) bytes) ≡ words_of bytes
words_of-whole [] = refl
words_of-whole (a ∷ []) = refl
words_of-whole (a ∷ b ∷ []) = refl
words_of-whole (a ∷ b ∷ c ∷ []) = refl
words_of-whole (a ∷ b ∷ c ∷ d ∷ rest) =
    let n = length (words_of rest) in
    let four : 4 * suc n ≡ suc (suc (suc (suc (4 * n)))) = omega arith in
    rw four (ap (λ ws. (a + 256 * b + 65536 * c + 16777216 * d) ∷ ws) (words_of-whole rest))
