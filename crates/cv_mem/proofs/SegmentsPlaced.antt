-- The segments of an image in memory.
use Rattle.std.proofs.Common.{◌≡◌, ℕ, ◌+◌, ◌-◌, ◌<◌, ◌≤◌, Bool, true, false, List, [], ◌∷◌, ◌++◌, length, get_or, take, drop, refl, sym, ap, ◌∙◌, subst, inl, inr, arith}
use Rattle.std.specs.Prelude.{map, min, nat_le, slice_index}
use Rattle.std.specs.List.{list_all}
use Rattle.std.proofs.Math.Path.{fun_ext}
use Rattle.std.proofs.lemmas.Bool.{and_parts, true_from_ne_false, both_ways, cases_lt}
use Rattle.std.proofs.lemmas.Bool.Decides.{nat_tests}
use Rattle.std.proofs.lemmas.List.{drop_more, take_more, places}
use Rattle.std.proofs.lemmas.List.Folds.{list_all_at}
use Rattle.cv_base.specs.declared.TheConstants.{HEAP_START}
use Rattle.cv_base.specs.declared.image.Segment.{Segment}
use Rattle.cv_base.specs.Regions.{is_within}
use Rattle.cv_base.specs.WellFormed.{is_placed}
use Rattle.cv_mem.specs.Memory.{memory_of, with_bytes, start_memory}
use Rattle.cv_mem.specs.SpaceOf.{are_low}

ends_low : (s : Segment) → is_placed s ≡ true → nat_le s.region.end HEAP_START ≡ true
ends_low s h = grind (arith, nat_tests)

is_long : (s : Segment) → is_placed s ≡ true → s.region.start + length s.bytes ≡ s.region.end
is_long s h = grind (arith, nat_tests)

pub regions_low : (segments : List Segment) → list_all is_placed segments ≡ true → are_low (map (λ (s : Segment). s.region) segments) ≡ true
regions_low [] h = refl
regions_low (s ∷ rest) h =
    let parts = and_parts (is_placed s) (list_all is_placed rest) h in
    rw (ends_low s parts.0) (regions_low rest parts.1)

placed_at : (segments : List Segment) (i : ℕ) (s : Segment) → list_all is_placed segments ≡ true → i < length segments → s ≡ get_or segments i s → is_placed s ≡ true
placed_at segments i s h l e =
    true_from_ne_false (is_placed s) (λ f. both_ways (list_all is_placed segments) (list_all_at is_placed segments i s l (subst (λ x. is_placed x ≡ false) e f)) h)

first_written : (s : Segment) (rest : List Segment) → s.region.start + length s.bytes ≡ s.region.end → with_bytes (start_memory rest) s.region.start s.bytes ≡ start_memory (s ∷ rest)
first_written s rest e = fun_ext (λ q. rw (e, with_bytes, start_memory) refl)

-- `left` segments are left to write, and one less after the last of them
pub segment_written : (segments : List Segment) (i left : ℕ) (s : Segment) (m n : ℕ → ℕ) (bs : List ℕ) → list_all is_placed segments ≡ true → left ≡ i + 1 → left ≤ length segments → s ≡ get_or segments i s → bs ≡ s.bytes → m ≡ start_memory (drop left segments) → n ≡ with_bytes m s.region.start bs → n ≡ start_memory (drop i segments)
segment_written segments i left s m n bs placed e l here b old new =
    let at = placed_at segments i s placed (omega arith) here in
    new
    ∙ ap (λ x. with_bytes m s.region.start x) b
    ∙ ap (λ x. with_bytes x s.region.start s.bytes) old
    ∙ first_written s (drop left segments) (is_long s at)
    ∙ ap (λ k. start_memory (s ∷ drop k segments)) e
    ∙ ap (λ x. start_memory (x ∷ drop (i + 1) segments)) here
    ∙ sym (ap start_memory (drop_more segments i s (omega arith)))

either : (b : Bool) (u v w : ℕ) → ◌≡◌ {A = ℕ} (elim b [ true ↦ u | false ↦ v ]) 0 → (v ≡ 0 → w ≡ 0) → ◌≡◌ {A = ℕ} (elim b [ true ↦ u | false ↦ w ]) 0
either true u v w h f = h
either false u v w h f = f h

is_past : (start end a : ℕ) → end ≤ a → is_within start end a ≡ false
is_past start end a h = grind (arith, nat_tests)

past_one : (b : Bool) (u : ℕ) → b ≡ false → ◌≡◌ {A = ℕ} (elim b [ true ↦ u | false ↦ 0 ]) 0
past_one true u h = cc
past_one false u h = refl

past_more : (xs : List Segment) (s : Segment) (a : ℕ) → start_memory xs a ≡ 0 → s.region.end ≤ a → start_memory (xs ++ s ∷ []) a ≡ 0
past_more [] s a h e =
    past_one (is_within s.region.start s.region.end a) (slice_index s.bytes (a - s.region.start)) (is_past s.region.start s.region.end a e)
past_more (x ∷ xs) s a h e =
    either (is_within x.region.start x.region.end a) (slice_index x.bytes (a - x.region.start)) (start_memory xs a) (start_memory (xs ++ s ∷ []) a) h (λ z. past_more xs s a z e)

-- no segment up to the i-th, nor that one, has an address past their ends
pub past_next : (segments : List Segment) (i : ℕ) (s : Segment) (a : ℕ) → i < length segments → s ≡ get_or segments i s → start_memory (take i segments) a ≡ 0 → s.region.end ≤ a → start_memory (take (i + 1) segments) a ≡ 0
past_next segments i s a l here h e =
    let more : take (i + 1) segments ≡ take i segments ++ s ∷ [] = take_more segments i s l ∙ ap (λ x. take i segments ++ x ∷ []) (sym here) in
    ap (λ xs. start_memory xs a) more ∙ past_more (take i segments) s a h e

taken_in : (bs : List ℕ) (n a : ℕ) → a < n → slice_index (take n bs) a ≡ slice_index bs a
taken_in bs n a l = grind (arith, places)

taken_past : (bs : List ℕ) (n a : ℕ) → n ≤ a → slice_index (take n bs) a ≡ 0
taken_past bs n a l = grind (arith, places)

none_past : (bs : List ℕ) (a : ℕ) → length bs ≤ a → slice_index bs a ≡ 0
none_past bs a l = grind (arith, places)

-- the bytes of a memory up to where the rest is 0
pub memory_of-take : (bs : List ℕ) (m : ℕ → ℕ) (end n : ℕ) → memory_of bs ≡ m → ((a : ℕ) → end ≤ a → m a ≡ 0) → n ≡ min end (length bs) → memory_of (take n bs) ≡ m
memory_of-take bs m end n e zero short = fun_ext (λ a.
    elim (cases_lt a n) [
      | inl l ↦ taken_in bs n a l ∙ ap (λ f. f a) e
      | inr l ↦ taken_past bs n a l ∙ elim (cases_lt a end) [
        | inl u ↦ sym (none_past bs a (omega arith)) ∙ ap (λ f. f a) e
        | inr u ↦ sym (zero a u)
      ]
    ])
