-- A list of bytes as a memory.
use Rattle.std.proofs.Common.{◌≡◌, ℕ, zero, suc, ◌+◌, ◌-◌, ◌%◌, ◌/◌, ◌<◌, ◌≤◌, true, false, List, [], ◌∷◌, ◌++◌, length, get_or, set, take, drop, refl, sym, ap, ◌∙◌, inl, inr, arith, length-set, length-append, get_or-set_same}
use Rattle.std.specs.Prelude.{slice_index}
use Rattle.std.specs.Int.{to_le_bytes, w32}
use Rattle.std.proofs.Math.Path.{fun_ext}
use Rattle.std.proofs.lemmas.Bool.{cases_lt}
use Rattle.std.proofs.lemmas.Bool.Decides.{nat_tests}
use Rattle.std.proofs.lemmas.List.{drop_more, get_or_append_left, get_or-append_right, places}
use borrow.Rule.Slice.PartMut.{put_mid}
use Rattle.cv_base.specs.Regions.{is_within}
use Rattle.cv_mem.specs.Memory.{memory_of, bytes_at, with_bytes, stored, spelled}

pub bytes_at-memory_of : (xs : List ℕ) (a n : ℕ) → a + n ≤ length xs → bytes_at (memory_of xs) a n ≡ take n (drop a xs)
bytes_at-memory_of xs a zero h = refl
bytes_at-memory_of xs a (suc n) h =
    rw (drop_more xs a 0 (omega arith)) (ap (λ t. get_or xs a 0 ∷ t) (bytes_at-memory_of xs (a + 1) n (omega arith)))

is_in : (a end q : ℕ) → a ≤ q → q < end → is_within a end q ≡ true
is_in a end q l u = grind (arith, nat_tests)

is_below : (a end q : ℕ) → q < a → is_within a end q ≡ false
is_below a end q l = grind (arith, nat_tests)

is_above : (a end q : ℕ) → end ≤ q → is_within a end q ≡ false
is_above a end q u = grind (arith, nat_tests)

pub with_bytes_in : (m : ℕ → ℕ) (a : ℕ) (bs : List ℕ) (q : ℕ) → a ≤ q → q < a + length bs → with_bytes m a bs q ≡ slice_index bs (q - a)
with_bytes_in m a bs q l u = rw (is_in a (a + length bs) q l u, with_bytes) refl

pub with_bytes_below : (m : ℕ → ℕ) (a : ℕ) (bs : List ℕ) (q : ℕ) → q < a → with_bytes m a bs q ≡ m q
with_bytes_below m a bs q l = rw (is_below a (a + length bs) q l, with_bytes) refl

pub with_bytes_above : (m : ℕ → ℕ) (a : ℕ) (bs : List ℕ) (q : ℕ) → a + length bs ≤ q → with_bytes m a bs q ≡ m q
with_bytes_above m a bs q u = rw (is_above a (a + length bs) q u, with_bytes) refl

-- the same, from what is at each address
pub same_memory : (m n : ℕ → ℕ) (a : ℕ) (bs : List ℕ) → ((q : ℕ) → q < a → n q ≡ m q) → ((q : ℕ) → a ≤ q → q < a + length bs → n q ≡ slice_index bs (q - a)) → ((q : ℕ) → a + length bs ≤ q → n q ≡ m q) → n ≡ with_bytes m a bs
same_memory m n a bs below in' above = fun_ext (λ q.
    elim (cases_lt q a) [
      | inl l ↦ below q l ∙ sym (with_bytes_below m a bs q l)
      | inr l ↦ elim (cases_lt q (a + length bs)) [
        | inl u ↦ in' q l u ∙ sym (with_bytes_in m a bs q l u)
        | inr u ↦ above q u ∙ sym (with_bytes_above m a bs q u)
      ]
    ])

pub memory_of-put_mid : (xs ys : List ℕ) (a k : ℕ) → k ≡ length ys → a + k ≤ length xs → memory_of (put_mid a k xs ys) ≡ with_bytes (memory_of xs) a ys
memory_of-put_mid xs ys a k e h =
    same_memory (memory_of xs) (memory_of (put_mid a k xs ys)) a ys
    (λ q l. grind (arith, places))
    (λ q l u. grind (arith, places))
    (λ q u. grind (arith, places))

memory_of-set : (xs : List ℕ) (a v : ℕ) → a < length xs → memory_of (set xs a v) ≡ with_bytes (memory_of xs) a (v ∷ [])
memory_of-set xs a v h =
    same_memory (memory_of xs) (memory_of (set xs a v)) a (v ∷ [])
    (λ q l. grind (arith, places))
    (λ q l u. let e : q ≡ a = omega arith in rw (e, get_or-set_same xs a v 0 h) (let z : a - a ≡ 0 = omega arith in rw z refl))
    (λ q u. grind (arith, places))

with_bytes-with_bytes : (m : ℕ → ℕ) (a b : ℕ) (bs cs : List ℕ) → b ≡ a + length bs → with_bytes (with_bytes m a bs) b cs ≡ with_bytes m a (bs ++ cs)
with_bytes-with_bytes m a b bs cs e =
    let n = length-append bs cs in
    same_memory m (with_bytes (with_bytes m a bs) b cs) a (bs ++ cs)
    (λ q l. with_bytes_below (with_bytes m a bs) b cs q (omega arith) ∙ with_bytes_below m a bs q l)
    (λ q l u. elim (cases_lt q b) [
      | inl s ↦ with_bytes_below (with_bytes m a bs) b cs q s ∙ with_bytes_in m a bs q l (omega arith) ∙ sym (get_or_append_left bs cs 0 (q - a) (omega arith))
      | inr s ↦ with_bytes_in (with_bytes m a bs) b cs q s (omega arith)
          ∙ ap (λ i. slice_index cs i) (omega arith)
          ∙ sym (get_or-append_right bs cs (length bs) (q - a) 0 refl (omega arith))
    ])
    (λ q u. with_bytes_above (with_bytes m a bs) b cs q (omega arith) ∙ with_bytes_above m a bs q (omega arith))

set_two : (xs : List ℕ) (a u v : ℕ) → a + 2 ≤ length xs → memory_of (set (set xs a u) (a + 1) v) ≡ with_bytes (memory_of xs) a (u ∷ v ∷ [])
set_two xs a u v h =
    memory_of-set (set xs a u) (a + 1) v (simp length-set (omega arith))
    ∙ ap (λ m. with_bytes m (a + 1) (v ∷ [])) (memory_of-set xs a u (omega arith))
    ∙ with_bytes-with_bytes (memory_of xs) a (a + 1) (u ∷ []) (v ∷ []) refl

set_four : (xs : List ℕ) (a u v w x : ℕ) → a + 4 ≤ length xs → memory_of (set (set (set (set xs a u) (a + 1) v) (a + 2) w) (a + 3) x) ≡ with_bytes (memory_of xs) a (u ∷ v ∷ w ∷ x ∷ [])
set_four xs a u v w x h =
    memory_of-set (set (set (set xs a u) (a + 1) v) (a + 2) w) (a + 3) x (simp length-set (omega arith))
    ∙ ap (λ m. with_bytes m (a + 3) (x ∷ [])) (memory_of-set (set (set xs a u) (a + 1) v) (a + 2) w (simp length-set (omega arith)))
    ∙ ap (λ m. with_bytes (with_bytes m (a + 2) (w ∷ [])) (a + 3) (x ∷ [])) (set_two xs a u v (omega arith))
    ∙ ap (λ m. with_bytes m (a + 3) (x ∷ [])) (with_bytes-with_bytes (memory_of xs) a (a + 2) (u ∷ v ∷ []) (w ∷ []) refl)
    ∙ with_bytes-with_bytes (memory_of xs) a (a + 3) (u ∷ v ∷ w ∷ []) (x ∷ []) refl

-- the bytes of a number, the lowest first
spelled-is : (n : ℕ) → to_le_bytes w32 n ≡ spelled 4 n
spelled-is n = grind arith

pub put_one : (xs bs : List ℕ) (a n : ℕ) → bs ≡ to_le_bytes w32 n → a + 1 ≤ length xs → memory_of (set xs a (get_or bs 0 0)) ≡ stored (memory_of xs) a 1 n
put_one xs bs a n e h = rw (e ∙ spelled-is n) (memory_of-set xs a (n % 256) (omega arith))

pub put_two : (xs bs : List ℕ) (a n : ℕ) → bs ≡ to_le_bytes w32 n → a + 2 ≤ length xs → memory_of (set (set xs a (get_or bs 0 0)) (a + 1) (get_or bs 1 0)) ≡ stored (memory_of xs) a 2 n
put_two xs bs a n e h = rw (e ∙ spelled-is n) (set_two xs a (n % 256) (n / 256 % 256) h)

pub put_four : (xs bs : List ℕ) (a n : ℕ) → bs ≡ to_le_bytes w32 n → a + 4 ≤ length xs → memory_of (set (set (set (set xs a (get_or bs 0 0)) (a + 1) (get_or bs 1 0)) (a + 2) (get_or bs 2 0)) (a + 3) (get_or bs 3 0)) ≡ stored (memory_of xs) a 4 n
put_four xs bs a n e h = rw (e ∙ spelled-is n) (set_four xs a (n % 256) (n / 256 % 256) (n / 256 / 256 % 256) (n / 256 / 256 / 256 % 256) h)
