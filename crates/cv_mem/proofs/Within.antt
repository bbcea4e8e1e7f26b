-- What is open lies within the bytes.
use Rattle.std.proofs.Common.{◌≡◌, ℕ, ◌+◌, ◌-◌, ◌%◌, ◌<◌, ◌≤◌, Bool, true, false, not, ◌&&◌, ◌==◌, List, [], ◌∷◌, length, Option, Some, None, refl, ap, inl, inr, arith}
use Rattle.std.specs.Prelude.{nat_le, if◌then◌else◌}
use Rattle.std.proofs.lemmas.Bool.{and_parts, or_cases, leb-true}
use Rattle.std.proofs.lemmas.Bool.Decides.{nat_tests}
use Rattle.cv_base.specs.declared.TheConstants.{HEAP_START, STACK_END}
use Rattle.cv_base.specs.declared.image.Region.{Region}
use Rattle.cv_base.specs.Regions.{each_address, some_address, is_within, is_in_region, is_heap_or_stack, is_code, is_readable, is_writable}
use Rattle.cv_mem.specs.declared.regions.Access.{Access}
use Rattle.cv_mem.specs.declared.regions.Access.TheVariants.{Read, Write}
use Rattle.cv_mem.specs.declared.space.MemFault.{MemFault}
use Rattle.cv_mem.specs.declared.space.MemFault.TheVariants.{Misaligned, Unreadable, Code, Unwritable}
use Rattle.cv_mem.specs.Access.{permits, is_open}
use Rattle.cv_mem.specs.Memory.{load_fault, store_fault}
use Rattle.cv_mem.specs.SpaceOf.{SpaceOf, IsSpace, IsSize, are_low, memory_size}
use Rattle.cv_mem.proofs.Addresses.{each_from, each_at}
use Rattle.cv_mem.proofs.CodeRegions.{no_code_high}

pub memory_size-is : memory_size ≡ STACK_END
unfolding memory_size
memory_size-is = refl

high : (access : Access) (regions : List Region) (k : ℕ) → HEAP_START ≤ k → k < STACK_END → is_open access regions k ≡ true
high access regions k l u = grind (arith, nat_tests)

-- the heap and the stack are open
pub high_open : (access : Access) (regions : List Region) (a n : ℕ) → HEAP_START ≤ a → a + n ≤ STACK_END → each_address (is_open access regions) a n ≡ true
high_open access regions a n l u =
    each_from (is_open access regions) a n (λ k low up. high access regions k (omega arith) (omega arith))

no_fault : (c z : Bool) (aligned : Bool) → aligned ≡ true → c ≡ false → z ≡ true → ◌≡◌ {A = Option MemFault} None (if not aligned then Some Misaligned else if c then Some Code else if z then None else Some Unwritable)
no_fault c z aligned e f g = rw (e, f, g) refl

pub high_stores : (regions : List Region) (a n : ℕ) → are_low regions ≡ true → (a % n == 0) ≡ true → HEAP_START ≤ a → a + n ≤ STACK_END → None ≡ store_fault regions a n
high_stores regions a n low e l u =
    no_fault (some_address (is_code regions) a n) (each_address (is_writable regions) a n) (a % n == 0) e (no_code_high regions a n low l) (high_open Write regions a n l u)

in_one_low : (b : Bool) (r : Region) (k : ℕ) → r.end ≤ HEAP_START → (b && is_within r.start r.end k) ≡ true → k < STACK_END
in_one_low b r k low h = grind (arith, nat_tests)

in_region_low : (test : Region → Bool) (regions : List Region) (k : ℕ) → are_low regions ≡ true → is_in_region test regions k ≡ true → k < STACK_END
in_region_low test [] k low h = cc
in_region_low test (r ∷ rs) k low h =
    let parts = and_parts (nat_le r.end HEAP_START) (are_low rs) low in
    elim (or_cases (test r && is_within r.start r.end k) (is_in_region test rs k) h) [
      | inl e ↦ in_one_low (test r) r k (leb-true r.end HEAP_START parts.0) e
      | inr e ↦ in_region_low test rs k parts.1 e
    ]

heap_below : (k : ℕ) → is_heap_or_stack k ≡ true → k < STACK_END
heap_below k h = grind (arith, nat_tests)

open_below : (access : Access) (regions : List Region) (k : ℕ) → are_low regions ≡ true → is_open access regions k ≡ true → k < STACK_END
open_below access regions k low h =
    elim (or_cases (is_heap_or_stack k) (is_in_region (permits access) regions k) h) [
      | inl e ↦ heap_below k e
      | inr e ↦ in_region_low (permits access) regions k low e
    ]

-- for a value and its fields: `s` is what the fields say, `t` what contracts see
pub open_within : (access : Access) (s t : SpaceOf) (a n : ℕ) (bs : List ℕ) → s ≡ t → IsSpace s → 0 < n → each_address (is_open access t.regions) a n ≡ true → bs ≡ s.bytes → a + n ≤ length bs
open_within access s t a n bs e is some each here =
    let low : are_low t.regions ≡ true = rw (ap (λ v. are_low v.regions) e) at is.low in
    let last = open_below access t.regions (a + (n - 1)) low (each_at (is_open access t.regions) a n (a + (n - 1)) each (omega arith) (omega arith)) in
    omega (arith, memory_size-is, is.whole, ap length here)

loads : (x z : Bool) → ◌≡◌ {A = Option MemFault} None (if x then Some Misaligned else if z then None else Some Unreadable) → z ≡ true
loads true z h = cc
loads false true h = refl
loads false false h = cc

stores : (x y z : Bool) → ◌≡◌ {A = Option MemFault} None (if x then Some Misaligned else if y then Some Code else if z then None else Some Unwritable) → z ≡ true
stores true y z h = cc
stores false true z h = cc
stores false false true h = refl
stores false false false h = cc

pub some_size : (n : ℕ) → IsSize n → 0 < n
some_size n h = grind (arith, nat_tests)

pub load_within : (s t : SpaceOf) (a n : ℕ) (bs : List ℕ) → s ≡ t → IsSpace s → IsSize n → None ≡ load_fault t.regions a n → bs ≡ s.bytes → a + n ≤ length bs
load_within s t a n bs e is size h here =
    open_within Read s t a n bs e is (some_size n size) (loads (not (a % n == 0)) (each_address (is_readable t.regions) a n) h) here

pub store_within : (s t : SpaceOf) (a n : ℕ) (bs : List ℕ) → s ≡ t → IsSpace s → IsSize n → None ≡ store_fault t.regions a n → bs ≡ s.bytes → a + n ≤ length bs
store_within s t a n bs e is size h here =
    open_within Write s t a n bs e is (some_size n size) (stores (not (a % n == 0)) (some_address (is_code t.regions) a n) (each_address (is_writable t.regions) a n) h) here
