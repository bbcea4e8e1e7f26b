-- Regions against a range of addresses.
use Rattle.std.proofs.Common.{◌≡◌, ℕ, ◌≤◌, Bool, true, false, ◌&&◌, List, [], ◌∷◌, refl, sym, ◌∙◌, arith}
use Rattle.std.specs.Prelude.{nat_le}
use Rattle.std.proofs.lemmas.Bool.{and_parts, leb-true}
use Rattle.std.proofs.lemmas.Bool.Decides.{nat_tests}
use Rattle.cv_base.specs.declared.TheConstants.{HEAP_START}
use Rattle.cv_base.specs.declared.image.Region.{Region}
use Rattle.cv_base.specs.Regions.{some_address, is_within, is_code}
use Rattle.cv_mem.specs.Access.{meets, code_meets}
use Rattle.cv_mem.specs.SpaceOf.{are_low}
use Rattle.cv_mem.proofs.Addresses.{some-none, some-or, some-within}

some-in : (b : Bool) (start end a n : ℕ) → some_address (λ q. b && is_within start end q) a n ≡ (b && some_address (is_within start end) a n)
some-in true start end a n = refl
some-in false start end a n = some-none a n

-- region by region, and address by address
pub some_code : (regions : List Region) (a n : ℕ) → code_meets regions a n ≡ some_address (is_code regions) a n
some_code [] a n = sym (some-none a n)
some_code (r ∷ rs) a n =
    rw (some-or (λ q. r.code && is_within r.start r.end q) (is_code rs) a n, some-in r.code r.start r.end a n, some-within r.start r.end a n, some_code rs a n) refl

low_has_none : (r : Region) (a n : ℕ) → r.end ≤ HEAP_START → HEAP_START ≤ a → (r.code && meets a n r) ≡ false
low_has_none r a n low high = grind (arith, nat_tests)

any_low : (regions : List Region) (a n : ℕ) → are_low regions ≡ true → HEAP_START ≤ a → code_meets regions a n ≡ false
any_low [] a n low high = refl
any_low (r ∷ rs) a n low high =
    let parts = and_parts (nat_le r.end HEAP_START) (are_low rs) low in
    rw (low_has_none r a n (leb-true r.end HEAP_START parts.0) high) (any_low rs a n parts.1 high)

-- the heap and the stack hold no code
pub no_code_high : (regions : List Region) (a n : ℕ) → are_low regions ≡ true → HEAP_START ≤ a → some_address (is_code regions) a n ≡ false
no_code_high regions a n low high = sym (some_code regions a n) ∙ any_low regions a n low high
