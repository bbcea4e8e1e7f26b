-- One bit set in a word, as a test of each bit.
use Rattle.std.proofs.Common.{◌≡◌, ℕ, ◌*◌, ◌%◌, ◌^◌, ◌<◌, ◌==◌, ◌||◌, arith}
use Rattle.std.specs.Int.{bit_at, w32}
use Rattle.std.specs.Int.RustNames.{bit_or}
use Rattle.std.proofs.lemmas.Bool.Decides.{nat_tests}
use Rattle.std.proofs.lemmas.Nat.Bits.{bit_at_set_same, bit_at_set_other}

pub set_bit : (n k : ℕ) → k < 32 → (r : ℕ) → (bit_at (bit_or n (1 * 2 ^ k % 2 ^ 32)) r == 1) ≡ ((r == k) || (bit_at n r == 1))
set_bit n k small r = grind (arith, nat_tests, bit_at_set_same w32 n k small, bit_at_set_other w32 n k small r)
