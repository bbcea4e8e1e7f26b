-- The first pair of segments that share a byte, and the first two that are executable, found by
-- going along the list.
use Rattle.std.proofs.Common.{◌≡◌, ◌≤◌, ◌-◌, ℕ, length, take, drop, get_or, arith, Bool, true, false, cond, List, [], ◌∷◌, ◌++◌, map, find, Option, Some, None, option_map, refl, ap, ◌∙◌}
use Rattle.std.proofs.Math.Seq.{take-length}
use Rattle.std.specs.List.{filter}
use Rattle.cv_base.specs.declared.image.ImageFault.{ImageFault}
use Rattle.cv_base.specs.declared.image.ImageFault.TheVariants as fault
use Rattle.cv_elf.specs.declared.header.ProgramHeader.{ProgramHeader}
use Rattle.cv_elf.specs.Headers.{is_executable, share_a_byte}
use Rattle.cv_elf.specs.Tests.{fault_between, first_two, pairs_of}

abbrev pub sharing : ProgramHeader × ProgramHeader → Bool
sharing p = share_a_byte p.0 p.1

abbrev pub place_of : ProgramHeader → ℕ
place_of h = h.place

-- the first and the other segments of a slice
abbrev pub head : List ProgramHeader → ProgramHeader
head xs = get_or xs 0 (record { place = 0; kind = 0; offset = 0; address = 0; file_size = 0; memory_size = 0; flags = 0 })

abbrev pub tail : List ProgramHeader → List ProgramHeader
tail xs = take (length xs - 1) (drop 1 xs)

head_tail : (xs : List ProgramHeader) → 1 ≤ length xs → xs ≡ head xs ∷ tail xs
head_tail [] some = absurd (omega arith)
head_tail (h ∷ later) some =
    let e : length (h ∷ later) - 1 ≡ length later = omega arith in
    rw (e, take-length later) refl

abbrev pub overlap_of : ProgramHeader → Option ℕ → Option ImageFault → Option ImageFault
overlap_of h (Some place) others = Some (fault.SegmentsOverlap h.place place)
overlap_of h None others = others

abbrev pub overlap_in : List (ProgramHeader × ProgramHeader) → Option ImageFault
overlap_in pairs = fault_between fault.SegmentsOverlap (find sharing pairs)

-- the pairs of one segment with later ones stand before the others
first_pair : (h : ProgramHeader) (later : List ProgramHeader) (others : List (ProgramHeader × ProgramHeader)) →
    overlap_in (map (λ (g : ProgramHeader). (h, g)) later ++ others) ≡ overlap_of h (option_map place_of (find (share_a_byte h) later)) (overlap_in others)
first_pair h [] others = refl
first_pair h (g ∷ later) others =
    elim (share_a_byte h g) as (λ b.
    fault_between fault.SegmentsOverlap (cond b (Some (h, g)) (find sharing (map (λ (g : ProgramHeader). (h, g)) later ++ others)))
    ≡ overlap_of h (option_map place_of (cond b (Some g) (find (share_a_byte h) later))) (overlap_in others)) [
      | true ↦ refl
      | false ↦ first_pair h later others
    ]

overlap_first : (xs : List ProgramHeader) → 1 ≤ length xs →
    overlap_in (pairs_of xs) ≡ overlap_of (head xs) (option_map place_of (find (share_a_byte (head xs)) (tail xs))) (overlap_in (pairs_of (tail xs)))
overlap_first xs some =
    ap (λ ys. overlap_in (pairs_of ys)) (head_tail xs some) ∙ first_pair (head xs) (tail xs) (pairs_of (tail xs))

pub overlap_here : (xs : List ProgramHeader) (place : ℕ) → 1 ≤ length xs →
    option_map place_of (find (share_a_byte (head xs)) (tail xs)) ≡ Some place → overlap_in (pairs_of xs) ≡ Some (fault.SegmentsOverlap (head xs).place place)
overlap_here xs place some e = overlap_first xs some ∙ ap (λ o. overlap_of (head xs) o (overlap_in (pairs_of (tail xs)))) e

pub overlap_later : (xs : List ProgramHeader) → 1 ≤ length xs →
    option_map place_of (find (share_a_byte (head xs)) (tail xs)) ≡ None → overlap_in (pairs_of xs) ≡ overlap_in (pairs_of (tail xs))
overlap_later xs some e = overlap_first xs some ∙ ap (λ o. overlap_of (head xs) o (overlap_in (pairs_of (tail xs)))) e

abbrev pub texts_in : List ProgramHeader → Option ImageFault
texts_in headers = fault_between fault.TwoTexts (first_two (filter is_executable headers))

abbrev pub text_after : ProgramHeader → Option ℕ → Option ImageFault
text_after h found = option_map (λ (place : ℕ). fault.TwoTexts h.place place) found

second_of : (h : ProgramHeader) (later : List ProgramHeader) →
    fault_between fault.TwoTexts (first_two (h ∷ filter is_executable later)) ≡ text_after h (option_map place_of (find is_executable later))
second_of h [] = refl
second_of h (g ∷ later) =
    elim (is_executable g) as (λ b.
    fault_between fault.TwoTexts (first_two (h ∷ cond b (g ∷ filter is_executable later) (filter is_executable later)))
    ≡ text_after h (option_map place_of (cond b (Some g) (find is_executable later)))) [
      | true ↦ refl
      | false ↦ second_of h later
    ]

pub texts_here : (xs : List ProgramHeader) → 1 ≤ length xs → is_executable (head xs) ≡ true →
    texts_in xs ≡ text_after (head xs) (option_map place_of (find is_executable (tail xs)))
texts_here xs some is = ap texts_in (head_tail xs some) ∙ rw is (second_of (head xs) (tail xs))
