-- What passed the tests is an image.
use Rattle.std.proofs.Common.{length-append, length-drop, inl, inr, ◌≡◌, ◌≤◌, ℕ, ◌+◌, ◌-◌, Bool, true, false, cond, not, ◌&&◌, List, [], ◌∷◌, ◌++◌, length, map, drop, replicate, find, Some, None, option_map, refl, ap, ◌∙◌, arith}
use Rattle.std.specs.List.{filter, list_all}
use Rattle.std.proofs.lemmas.Bool.{cases_Bool}
use Rattle.std.proofs.lemmas.Bool.Decides.{nat_tests}
use Rattle.std.proofs.lemmas.List.{length-take-le, length-replicate, length-map}
use Rattle.std.proofs.lemmas.List.Elements.{All-head, All-tail}
use Rattle.std.specs.Cmp.Derive.{both_true}
use Rattle.cv_base.specs.declared.image.Segment.{Segment}
use Rattle.cv_base.specs.Points.{is_point_in}
use Rattle.cv_base.specs.WellFormed.{IsImage, IsText, is_placed, are_apart, all_apart, one_has_code}
use Rattle.cv_elf.specs.declared.header.ProgramHeader.{ProgramHeader}
use Rattle.cv_elf.specs.Fields.{e_entry}
use Rattle.cv_elf.specs.Headers.{is_executable, is_writable, is_outside, share_a_byte}
use Rattle.cv_elf.specs.Loading.{file_part, picture_of, segment_of, text_base_of, text_words}
use Rattle.cv_elf.specs.Passes.{AllInside}
use Rattle.cv_elf.specs.Tests.{first_two, pairs_of}
use Rattle.cv_elf.proofs.Pairs.{sharing}
use Rattle.cv_elf.proofs.WordsOf.{length_words, words_within}

pub record IsInside (file_length : ℕ) (h : ProgramHeader) : Type 0 where
  pub in_file : h.offset + h.file_size ≤ file_length
  pub in_memory : h.file_size ≤ h.memory_size
  pub above : 4096 ≤ h.address
  pub below : h.address + h.memory_size ≤ 4194304

pub inside : (file_length : ℕ) (h : ProgramHeader) → is_outside file_length h ≡ false → IsInside file_length h
inside file_length h is = record {
  in_file = grind (arith, nat_tests);
  in_memory = grind (arith, nat_tests);
  above = grind (arith, nat_tests);
  below = grind (arith, nat_tests);
}

length_part : (bytes : List ℕ) (h : ProgramHeader) → h.offset + h.file_size ≤ length bytes → length (file_part bytes h) ≡ h.file_size
length_part bytes h within = length-take-le h.file_size (drop h.offset bytes) (omega (arith, length-drop h.offset bytes))

length_segment : (bytes : List ℕ) (h : ProgramHeader) → IsInside (length bytes) h → length (segment_of bytes h).bytes ≡ h.memory_size
length_segment bytes h is =
    omega (
      arith,
      length-append (file_part bytes h) (replicate (h.memory_size - h.file_size) 0),
      length_part bytes h is.in_file,
      length-replicate {A = ℕ} (h.memory_size - h.file_size) 0,
    )

placed_one : (bytes : List ℕ) (h : ProgramHeader) → IsInside (length bytes) h → is_placed (segment_of bytes h) ≡ true
placed_one bytes h is = let e = length_segment bytes h is in grind (arith, nat_tests)

placed : (bytes : List ℕ) (hs : List ProgramHeader) → AllInside (length bytes) hs → list_all is_placed (map (segment_of bytes) hs) ≡ true
placed bytes [] all = refl
placed bytes (h ∷ hs) all =
    let P : ProgramHeader → Type 0 = λ h. is_outside (length bytes) h ≡ false in
    both_true (placed_one bytes h (inside (length bytes) h (All-head P h hs all))) (placed bytes hs (All-tail P h hs all))

-- segments that share no byte are apart
apart_one : (bytes : List ℕ) (g h : ProgramHeader) → share_a_byte g h ≡ false → are_apart (segment_of bytes g).region (segment_of bytes h).region ≡ true
apart_one bytes g h is = grind (arith, nat_tests)

record FirstApart (bytes : List ℕ) (h : ProgramHeader) (later : List ProgramHeader) (others : List (ProgramHeader × ProgramHeader)) : Type 0 where
  first : list_all (λ (t : Segment). are_apart (segment_of bytes h).region t.region) (map (segment_of bytes) later) ≡ true
  rest : find sharing others ≡ None

first_apart : (bytes : List ℕ) (h : ProgramHeader) (later : List ProgramHeader) (others : List (ProgramHeader × ProgramHeader)) →
    find sharing (map (λ (g : ProgramHeader). (h, g)) later ++ others) ≡ None → FirstApart bytes h later others
first_apart bytes h [] others none = record { first = refl; rest = none }
first_apart bytes h (g ∷ later) others none =
    elim (cases_Bool (share_a_byte h g)) [
      | inl shared ↦ absurd (let e = rw shared at none in cc)
      | inr not_shared ↦
          let more = first_apart bytes h later others (rw not_shared at none) in
          record { first = both_true (apart_one bytes h g not_shared) more.first; rest = more.rest }
    ]

apart : (bytes : List ℕ) (hs : List ProgramHeader) → find sharing (pairs_of hs) ≡ None → all_apart (map (segment_of bytes) hs) ≡ true
apart bytes [] none = refl
apart bytes (h ∷ hs) none =
    let one = first_apart bytes h hs (pairs_of hs) none in
    both_true one.first (apart bytes hs one.rest)

-- no other segment has code where the first two with PF_X are not there
no_more_code : (bytes : List ℕ) (hs : List ProgramHeader) → filter is_executable hs ≡ [] → list_all (λ (t : Segment). not t.region.code) (map (segment_of bytes) hs) ≡ true
no_more_code bytes [] none = refl
no_more_code bytes (h ∷ hs) none =
    elim (cases_Bool (is_executable h)) [
      | inl is ↦ absurd (let e = rw is at none in cc)
      | inr is_not ↦ rw is_not (no_more_code bytes hs (rw is_not at none))
    ]

only_one : (h : ProgramHeader) (later : List ProgramHeader) → first_two (h ∷ later) ≡ None → later ≡ []
only_one h [] none = refl
only_one h (g ∷ later) none = absurd (cc)

one_code : (bytes : List ℕ) (hs : List ProgramHeader) (text : ProgramHeader) → find is_executable hs ≡ Some text → first_two (filter is_executable hs) ≡ None →
    one_has_code (map (segment_of bytes) hs) ≡ true
one_code bytes [] text found none = absurd (cc)
one_code bytes (h ∷ hs) text found none =
    elim (cases_Bool (is_executable h)) [
      | inl is ↦ rw is (no_more_code bytes hs (only_one h (filter is_executable hs) (rw is at none)))
      | inr is_not ↦ rw is_not (one_code bytes hs text (rw is_not at found) (rw is_not at none))
    ]

found_segment : (bytes : List ℕ) (hs : List ProgramHeader) →
    find (λ (s : Segment). s.region.code) (map (segment_of bytes) hs) ≡ option_map (segment_of bytes) (find is_executable hs)
found_segment bytes [] = refl
found_segment bytes (h ∷ hs) =
    elim (is_executable h) as (λ b.
    cond b (Some (segment_of bytes h)) (find (λ (s : Segment). s.region.code) (map (segment_of bytes) hs))
    ≡ option_map (segment_of bytes) (cond b (Some h) (find is_executable hs))) [
      | true ↦ refl
      | false ↦ found_segment bytes hs
    ]

abbrev pub is_writable_code : ProgramHeader → Bool
is_writable_code h = is_writable h && is_executable h

code_fixed_one : (w x : Bool) → (w && x) ≡ false → not (x && w) ≡ true
code_fixed_one true true is = absurd (cc)
code_fixed_one true false is = refl
code_fixed_one false true is = refl
code_fixed_one false false is = refl

code_fixed : (bytes : List ℕ) (hs : List ProgramHeader) → find is_writable_code hs ≡ None →
    list_all (λ (s : Segment). not (s.region.code && s.region.write)) (map (segment_of bytes) hs) ≡ true
code_fixed bytes [] none = refl
code_fixed bytes (h ∷ hs) none =
    elim (cases_Bool (is_writable_code h)) [
      | inl is ↦ absurd (let e = rw is at none in cc)
      | inr is_not ↦ both_true (code_fixed_one (is_writable h) (is_executable h) is_not) (code_fixed bytes hs (rw is_not at none))
    ]

-- the text lies in its segment and is spelled by its bytes
text_in : (bytes : List ℕ) (hs : List ProgramHeader) (text : ProgramHeader) → IsInside (length bytes) text → 1 ≤ length (text_words bytes text) →
    IsText (picture_of bytes hs text) (segment_of bytes text)
text_in bytes hs text is some =
    let skipped = text_base_of text - text.address in
    let part = file_part bytes text in
    let count = length_words (drop skipped part) in
    let left = length-drop skipped part in
    let whole = length_part bytes text is.in_file in
    let within : skipped ≤ length part = omega arith in
    record {
      starts = omega arith;
      ends = omega (arith, is.in_memory);
      spelled = words_within part (replicate (text.memory_size - text.file_size) 0) skipped within;
    }

pub record PassedTests (bytes : List ℕ) (hs : List ProgramHeader) (text : ProgramHeader) : Type 0 where
  pub few : length hs ≤ 64
  pub all_inside : AllInside (length bytes) hs
  pub none_writable : find is_writable_code hs ≡ None
  pub none_sharing : find sharing (pairs_of hs) ≡ None
  pub one_text : first_two (filter is_executable hs) ≡ None
  pub found : find is_executable hs ≡ Some text
  pub text_inside : is_outside (length bytes) text ≡ false
  pub some_words : 1 ≤ length (text_words bytes text)
  pub few_words : length (text_words bytes text) ≤ 65536
  pub entry : is_point_in (text_base_of text) (length (text_words bytes text)) (e_entry bytes) ≡ true

pub IsImage-loaded : (bytes : List ℕ) (hs : List ProgramHeader) (text : ProgramHeader) → PassedTests bytes hs text → IsImage (picture_of bytes hs text)
IsImage-loaded bytes hs text passed = record {
  few_segments = omega (arith, length-map hs (segment_of bytes), passed.few);
  placed = placed bytes hs passed.all_inside;
  apart = apart bytes hs passed.none_sharing;
  one_text = one_code bytes hs text passed.found passed.one_text;
  code_fixed = code_fixed bytes hs passed.none_writable;
  some_words = passed.some_words;
  few_words = passed.few_words;
  aligned = omega arith;
  text =
      let e = found_segment bytes hs ∙ ap (λ o. option_map (segment_of bytes) o) passed.found in
      rw e (text_in bytes hs text (inside (length bytes) text passed.text_inside) passed.some_words);
  entry = passed.entry;
}
