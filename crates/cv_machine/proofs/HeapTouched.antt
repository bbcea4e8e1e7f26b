-- When a range of addresses touches the heap.
use Rattle.std.proofs.Common.{◌≡◌, ℕ, zero, suc, ◌+◌, ◌≤◌, Bool, false, ◌||◌, ◌&&◌, refl, ap, ◌∙◌, inl, inr, arith}
use Rattle.std.specs.Prelude.{nat_lt}
use Rattle.std.proofs.lemmas.Bool.{cases_Bool}
use Rattle.std.proofs.lemmas.Bool.Decides.{nat_tests}
use Rattle.cv_base.specs.declared.TheConstants.{HEAP_START, STACK_START}
use Rattle.cv_base.specs.Regions.{is_heap, some_address}

some_step : (test : ℕ → Bool) (a n : ℕ) → some_address test a (suc n) ≡ (test a || some_address test (a + 1) n)
some_step test a n = elim (cases_Bool (test a)) [ inl e ↦ rw (e, some_address) refl | inr e ↦ rw (e, some_address) refl ]

one : (a : ℕ) → (is_heap a || false) ≡ (nat_lt a STACK_START && nat_lt HEAP_START (a + suc zero))
one a = grind (arith, nat_tests)

more : (a n : ℕ) → (is_heap a || (nat_lt (a + 1) STACK_START && nat_lt HEAP_START (a + 1 + suc n))) ≡ (nat_lt a STACK_START && nat_lt HEAP_START (a + suc (suc n)))
more a n = grind (arith, nat_tests)

from_one : (a n : ℕ) → some_address is_heap a (suc n) ≡ (nat_lt a STACK_START && nat_lt HEAP_START (a + suc n))
from_one a zero = some_step is_heap a zero ∙ one a
from_one a (suc n) = some_step is_heap a (suc n) ∙ ap (λ b. is_heap a || b) (from_one (a + 1) n) ∙ more a n

pub heap_touched : (a n : ℕ) → 1 ≤ n → some_address is_heap a n ≡ (nat_lt a STACK_START && nat_lt HEAP_START (a + n))
heap_touched a zero some = absurd (omega arith)
heap_touched a (suc n) some = from_one a n
