-- A write, and the marks of the pages that it touches.
use Rattle.std.proofs.Common.{◌≡◌, ℕ, ◌+◌, ◌*◌, ◌/◌, ◌%◌, ◌<◌, ◌≤◌, ◌⊎◌, Bool, true, false, not, ◌==◌, List, length, take, ◌++◌, Option, None, Some, refl, ap, ◌∙◌, inl, inr, arith}
use Rattle.std.specs.Prelude.{if◌then◌else◌}
use Rattle.std.proofs.lemmas.Bool.{cases_lt, cases_eq, both_ways}
use Rattle.std.proofs.lemmas.Bool.Decides.{nat_tests}
use Rattle.cv_base.specs.declared.image.Region.{Region}
use Rattle.cv_base.specs.Regions.{each_address, some_address, is_code, is_writable}
use Rattle.cv_mem.specs.declared.space.MemFault.{MemFault}
use Rattle.cv_mem.specs.declared.space.MemFault.TheVariants.{Misaligned, Code, Unwritable}
use Rattle.cv_mem.specs.Memory.{memory_of, with_bytes, stored, spelled, store_fault}
use Rattle.cv_mem.specs.Pages.{is_written, IsKept}
use Rattle.std.proofs.Math.Seq.{take-append_seam}
use Rattle.cv_mem.specs.SpaceOf.{IsSize, IsSpace, are_low, memory_size}
use Rattle.cv_mem.proofs.BytesAt.{with_bytes_below, with_bytes_above}

-- bytes written to pages that are marked
pub kept_with : (old new start ys : List ℕ) (marks marked : List Bool) (a : ℕ) → memory_of new ≡ with_bytes (memory_of old) a ys → ((q : ℕ) → a ≤ q → q < a + length ys → is_written marked q ≡ true) → ((q : ℕ) → is_written marked q ≡ false → is_written marks q ≡ false) → length marked ≡ length marks → IsKept old start marks → IsKept new start marked
kept_with old new start ys marks marked a e covers others long kept = record {
  pages = rw long kept.pages;
  same = λ q h.
      ap (λ f. f q) e
      ∙ elim (cases_lt q a) [
        | inl l ↦ with_bytes_below (memory_of old) a ys q l
        | inr l ↦ elim (cases_lt q (a + length ys)) [
          | inl u ↦ absurd (both_ways (is_written marked q) h (covers q l u))
          | inr u ↦ with_bytes_above (memory_of old) a ys q u
        ]
      ]
      ∙ kept.same q (others q h);
}

four : (n : ℕ) → IsSize n → ¬ (n ≡ 1) → ¬ (n ≡ 2) → n ≡ 4
four n h one two = grind (arith, nat_tests)

sizes : (n : ℕ) → IsSize n → (n ≡ 1) ⊎ ((n ≡ 2) ⊎ (n ≡ 4))
sizes n h = elim (cases_eq n 1) [ inl e ↦ inl e | inr one ↦ elim (cases_eq n 2) [ inl e ↦ inr (inl e) | inr two ↦ inr (inr (four n h one two)) ] ]

length-spelled : (n value : ℕ) → IsSize n → length (spelled n value) ≡ n
length-spelled n value h =
    elim (sizes n h) [ inl e ↦ rw e refl | inr r ↦ elim r [ inl e ↦ rw e refl | inr e ↦ rw e refl ] ]

-- an aligned store lies in one page
in_page : (a n q : ℕ) → IsSize n → a % n ≡ 0 → a ≤ q → q < a + n → q / 4096 ≡ a / 4096
in_page a n q size e l u =
    elim (sizes n size) [
      | inl s ↦ let z : q ≡ a = omega arith in ap (λ k. k / 4096) z
      | inr r ↦ elim r [
        | inl s ↦ let z : a % 2 ≡ 0 = rw s at e in omega arith
        | inr s ↦ let z : a % 4 ≡ 0 = rw s at e in omega arith
      ]
    ]

aligned : (x y z : Bool) → ◌≡◌ {A = Option MemFault} (if not x then Some Misaligned else if y then Some Code else if z then None else Some Unwritable) None → x ≡ true
aligned true y z h = refl
aligned false y z h = cc

pub store_aligned : (regions : List Region) (a n : ℕ) → store_fault regions a n ≡ None → (a % n == 0) ≡ true
store_aligned regions a n h = aligned (a % n == 0) (some_address (is_code regions) a n) (each_address (is_writable regions) a n) h

pub put_kept : (bytes old new start : List ℕ) (written marks marked : List Bool) (regions : List Region) (a n value : ℕ) → old ≡ bytes → marks ≡ written → IsSize n → store_fault regions a n ≡ None → memory_of new ≡ stored (memory_of old) a n value → ((q : ℕ) → q / 4096 ≡ a / 4096 → is_written marked q ≡ true) → ((q : ℕ) → is_written marked q ≡ false → is_written marks q ≡ false) → length marked ≡ length marks → IsKept bytes start written → IsKept new start marked
put_kept bytes old new start written marks marked regions a n value e1 e2 size allowed e covers others long kept =
    let width = length-spelled n value size in
    let even : a % n ≡ 0 = grind (arith, nat_tests, store_aligned regions a n allowed) in
    let before : IsKept old start marks = rw (e1, e2) kept in
    kept_with old new start (spelled n value) marks marked a e (λ q l u. covers q (in_page a n q size even l (omega arith))) others long before

pub fill_kept : (bytes old new start ys : List ℕ) (written marks marked : List Bool) (a : ℕ) → old ≡ bytes → marks ≡ written → memory_of new ≡ with_bytes (memory_of old) a ys → ((q : ℕ) → a ≤ q → q < a + length ys → is_written marked q ≡ true) → ((q : ℕ) → is_written marked q ≡ false → is_written marks q ≡ false) → length marked ≡ length marks → IsKept bytes start written → IsKept new start marked
fill_kept bytes old new start ys written marks marked a e1 e2 e covers others long kept =
    let before : IsKept old start marks = rw (e1, e2) kept in
    kept_with old new start ys marks marked a e covers others long before

-- a slice of a whole `Vec`, written and given back
pub given_back : {A : Type 0} → (n : ℕ) (new rest : List A) → n ≡ length new → take n (new ++ rest) ≡ new
given_back n new rest e = rw e (take-append_seam new rest)

pub space_kept : (bs cs start : List ℕ) (ms ns : List Bool) (regions : List Region) → cs ≡ bs → ns ≡ ms → length bs ≡ memory_size → are_low regions ≡ true → IsKept bs start ms → IsSpace (record { bytes = cs; regions = regions; start = start }) × IsKept cs start ns
space_kept bs cs start ms ns regions e f whole low kept =
    rw (e, f) (record { whole = whole; low = low }, kept)

pub mark_within : (bytes : List ℕ) (marks slice : List Bool) (a n : ℕ) → 0 < n → a + n ≤ length bytes → length bytes ≡ memory_size → 4096 * length marks ≡ memory_size → slice ≡ marks → a < 4096 * length slice
mark_within bytes marks slice a n some within whole pages same = rw same (omega arith)

pub marks_within : (bytes : List ℕ) (marks slice : List Bool) (a n : ℕ) → a + n ≤ length bytes → length bytes ≡ memory_size → 4096 * length marks ≡ memory_size → slice ≡ marks → a + n ≤ 4096 * length slice
marks_within bytes marks slice a n within whole pages same = rw same (omega arith)
