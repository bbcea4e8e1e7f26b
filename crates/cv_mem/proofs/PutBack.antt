-- A part of the start's bytes, put back.
use Rattle.std.proofs.Common.{◌≡◌, ℕ, ◌+◌, ◌-◌, ◌<◌, ◌≤◌, List, length, take, drop, get_or, length-take, length-drop, ap, ◌∙◌, arith}
use Rattle.std.proofs.lemmas.List.{places}
use Rattle.cv_mem.specs.Memory.{memory_of, with_bytes}
use Rattle.cv_mem.proofs.BytesAt.{with_bytes_in, with_bytes_below, with_bytes_above}

long : (ss : List ℕ) (at n : ℕ) → at + n ≤ length ss → length (take n (drop at ss)) ≡ n
long ss at n h = simp (length-take, length-drop) (omega arith)

same_place : (ss : List ℕ) (at n a : ℕ) → at ≤ a → a < at + n → at + n ≤ length ss → get_or (take n (drop at ss)) (a - at) 0 ≡ get_or ss a 0
same_place ss at n a l u h = grind (arith, places)

pub part_in : (old new : ℕ → ℕ) (ss : List ℕ) (at n a : ℕ) → new ≡ with_bytes old at (take n (drop at ss)) → at + n ≤ length ss → at ≤ a → a < at + n → new a ≡ memory_of ss a
part_in old new ss at n a e h l u =
    let whole = long ss at n h in
    ap (λ f. f a) e ∙ with_bytes_in old at (take n (drop at ss)) a l (omega arith) ∙ same_place ss at n a l u h

pub part_below : (old new : ℕ → ℕ) (ss : List ℕ) (at n a : ℕ) → new ≡ with_bytes old at (take n (drop at ss)) → a < at → new a ≡ old a
part_below old new ss at n a e l = ap (λ f. f a) e ∙ with_bytes_below old at (take n (drop at ss)) a l

pub part_above : (old new : ℕ → ℕ) (ss : List ℕ) (at n a : ℕ) → new ≡ with_bytes old at (take n (drop at ss)) → at + n ≤ length ss → at + n ≤ a → new a ≡ old a
part_above old new ss at n a e h u =
    let whole = long ss at n h in
    ap (λ f. f a) e ∙ with_bytes_above old at (take n (drop at ss)) a (omega arith)

pub zero_past : (ss : List ℕ) (a : ℕ) → length ss ≤ a → memory_of ss a ≡ 0
zero_past ss a h = grind (arith, places)
