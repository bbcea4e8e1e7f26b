-- A number read at the start of the rest of the file is the number at that place.
use Rattle.std.proofs.Common.{◌≡◌, ℕ, ◌-◌, List, length, take, drop, arith, ap, ◌∙◌}
use Rattle.std.proofs.lemmas.Grind.{common_steps}
use Rattle.std.proofs.lemmas.Slice.{between_to_end}
use Rattle.byteorder.specs.Endian.{little_number}
use Rattle.cv_elf.specs.Fields.{half_at, word_at}

half_after : (bytes : List ℕ) (at : ℕ) → little_number 2 (drop at bytes) ≡ half_at bytes at
unfolding half_at
half_after bytes at = grind (arith, common_steps)

pub half_read : (bytes : List ℕ) (at : ℕ) → little_number 2 (take (length bytes - at) (drop at bytes)) ≡ half_at bytes at
half_read bytes at = ap (λ xs. little_number 2 xs) (between_to_end bytes at (length bytes) (omega arith)) ∙ half_after bytes at

word_after : (bytes : List ℕ) (at : ℕ) → little_number 4 (drop at bytes) ≡ word_at bytes at
unfolding word_at
word_after bytes at = grind (arith, common_steps)

pub word_read : (bytes : List ℕ) (at : ℕ) → little_number 4 (take (length bytes - at) (drop at bytes)) ≡ word_at bytes at
word_read bytes at = ap (λ xs. little_number 4 xs) (between_to_end bytes at (length bytes) (omega arith)) ∙ word_after bytes at
