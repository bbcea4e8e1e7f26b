-- What every image keeps (docs/FORMATS.md, "What an image keeps").
use Rattle.std.specs.Prelude.{◌≡◌, ℕ, Bool, true, false, ◌&&◌, ◌||◌, not, if◌then◌else◌, ◌+◌, ◌-◌, ◌*◌, ◌%◌, ◌≤◌, ◌==◌, nat_le, List, [], ◌∷◌, length, take, drop, find, Option, Some, None}
use Rattle.std.specs.List.{list_all}
use Rattle.cv_base.specs.declared.TheConstants.{SEGMENTS_START, HEAP_START}
use Rattle.cv_base.specs.declared.image.Region.{Region}
use Rattle.cv_base.specs.declared.image.Segment.{Segment}
use Rattle.cv_base.specs.Picture.{Picture, is_point}

-- the words that bytes spell, lowest byte first; less than four bytes at the end are no word
abbrev pub words_of : List ℕ → List ℕ
words_of (a ∷ b ∷ c ∷ d ∷ rest) = (a + 256 * b + 65536 * c + 16777216 * d) ∷ words_of rest
words_of _ = []

-- a segment lies in the range for segments, and its region is as long as its bytes
abbrev pub is_placed : Segment → Bool
is_placed s =
    nat_le SEGMENTS_START s.region.start && nat_le s.region.end HEAP_START && (s.region.start + length s.bytes == s.region.end)

abbrev pub are_apart : Region → Region → Bool
are_apart a b = nat_le a.end b.start || nat_le b.end a.start

-- no two segments share a byte
abbrev pub all_apart : List Segment → Bool
all_apart [] = true
all_apart (s ∷ rest) = list_all (λ (t : Segment). are_apart s.region t.region) rest && all_apart rest

-- exactly one segment has `code`
abbrev pub one_has_code : List Segment → Bool
one_has_code [] = false
one_has_code (s ∷ rest) =
    if s.region.code then list_all (λ (t : Segment). not t.region.code) rest else one_has_code rest

-- the text is words of the segment that has `code`
pub record IsText (image : Picture) (s : Segment) : Type 0 where
  pub starts : s.region.start ≤ image.text_base
  pub ends : image.text_base + 4 * length image.words ≤ s.region.end
  pub spelled : words_of (take (4 * length image.words) (drop (image.text_base - s.region.start) s.bytes)) ≡ image.words

abbrev pub HasText : Picture → Option Segment → Type 0
HasText image None = ⊥
HasText image (Some s) = IsText image s

pub record IsImage (image : Picture) : Type 0 where
  pub few_segments : length image.segments ≤ 64
  pub placed : list_all is_placed image.segments ≡ true
  pub apart : all_apart image.segments ≡ true
  pub one_text : one_has_code image.segments ≡ true
  pub code_fixed : list_all (λ (s : Segment). not (s.region.code && s.region.write)) image.segments ≡ true
  pub some_words : 1 ≤ length image.words
  pub few_words : length image.words ≤ 65536
  pub aligned : image.text_base % 4 ≡ 0
  pub text : HasText image (find (λ (s : Segment). s.region.code) image.segments)
  pub entry : is_point image image.entry ≡ true
