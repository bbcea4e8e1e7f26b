-- Tests over the addresses of a range.
use Rattle.std.proofs.Common.{◌≡◌, ℕ, zero, suc, ◌+◌, ◌<◌, ◌≤◌, Bool, true, false, ◌||◌, ◌&&◌, refl, sym, ap, ◌∙◌, inl, inr, arith}
use Rattle.std.specs.Prelude.{nat_lt, max, min}
use Rattle.std.proofs.lemmas.Bool.{and_parts, cases_Bool, cases_eq, false_from_ne_true, both_ways}
use Rattle.std.proofs.lemmas.Bool.Decides.{nat_tests}
use Rattle.cv_base.specs.Regions.{each_address, some_address, is_within}

each_step : (test : ℕ → Bool) (a n : ℕ) → each_address test a (suc n) ≡ (test a && each_address test (a + 1) n)
each_step test a n =
    elim (cases_Bool (test a)) [ inl e ↦ rw (e, each_address) refl | inr e ↦ rw (e, each_address) refl ]

some_step : (test : ℕ → Bool) (a n : ℕ) → some_address test a (suc n) ≡ (test a || some_address test (a + 1) n)
some_step test a n =
    elim (cases_Bool (test a)) [ inl e ↦ rw (e, some_address) refl | inr e ↦ rw (e, some_address) refl ]

pub each_from : (test : ℕ → Bool) (a n : ℕ) → ((k : ℕ) → a ≤ k → k < a + n → test k ≡ true) → each_address test a n ≡ true
each_from test a zero h = refl
each_from test a (suc n) h =
    rw (each_step test a n, h a (omega arith) (omega arith)) (each_from test (a + 1) n (λ k l u. h k (omega arith) (omega arith)))

pub each_at : (test : ℕ → Bool) (a n k : ℕ) → each_address test a n ≡ true → a ≤ k → k < a + n → test k ≡ true
each_at test a zero k h l u = absurd (omega arith)
each_at test a (suc n) k h l u =
    let parts = and_parts (test a) (each_address test (a + 1) n) (rw each_step at h) in
    elim (cases_eq a k) [
      | inl e ↦ rw e at parts.0
      | inr ne ↦ each_at test (a + 1) n k parts.1 (omega arith) (omega arith)
    ]

pub each_not : (test : ℕ → Bool) (a n k : ℕ) → a ≤ k → k < a + n → test k ≡ false → each_address test a n ≡ false
each_not test a n k l u e =
    false_from_ne_true (each_address test a n) (λ h. both_ways (test k) e (each_at test a n k h l u))

pub some-none : (a n : ℕ) → some_address (λ _. false) a n ≡ false
some-none a zero = refl
some-none a (suc n) = some-none (a + 1) n

or_or : (x y u v : Bool) → (x || y || (u || v)) ≡ ((x || u) || (y || v))
or_or true y u v = refl
or_or false true true v = refl
or_or false true false v = refl
or_or false false u v = refl

pub some-or : (s t : ℕ → Bool) (a n : ℕ) → some_address (λ q. s q || t q) a n ≡ (some_address s a n || some_address t a n)
some-or s t a zero = refl
some-or s t a (suc n) =
    some_step (λ q. s q || t q) a n
    ∙ ap (λ b. s a || t a || b) (some-or s t (a + 1) n)
    ∙ or_or (s a) (t a) (some_address s (a + 1) n) (some_address t (a + 1) n)
    ∙ sym (rw (some_step s a n, some_step t a n) refl)

none_between : (start end a : ℕ) → false ≡ nat_lt (max start a) (min end (a + 0))
none_between start end a = grind (arith, nat_tests)

one_more_between : (start end a n : ℕ) → (is_within start end a || nat_lt (max start (a + 1)) (min end (a + 1 + n))) ≡ nat_lt (max start a) (min end (a + suc n))
one_more_between start end a n = grind (arith, nat_tests)

pub some-within : (start end a n : ℕ) → some_address (is_within start end) a n ≡ nat_lt (max start a) (min end (a + n))
some-within start end a zero = none_between start end a
some-within start end a (suc n) =
    some_step (is_within start end) a n
    ∙ ap (λ b. is_within start end a || b) (some-within start end (a + 1) n)
    ∙ one_more_between start end a n
