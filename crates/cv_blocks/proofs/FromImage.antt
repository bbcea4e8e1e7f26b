-- The text of an image is one that can be listed.
use Rattle.std.proofs.Common.{◌≡◌, Bool, true, false, ◌&&◌, ◌+◌, ◌*◌, ◌≤◌, List, [], ◌∷◌, length, Option, Some, cond, arith}
use Rattle.std.specs.List.{find, list_all}
use Rattle.std.proofs.lemmas.Bool.Decides.{nat_tests}
use Rattle.cv_base.specs.declared.TheConstants.{HEAP_START}
use Rattle.cv_base.specs.declared.image.Segment.{Segment}
use Rattle.cv_base.specs.Picture.{Picture}
use Rattle.cv_base.specs.WellFormed.{IsImage, HasText, is_placed}
use Rattle.cv_blocks.specs.TextMap.{text_only, IsListed}

placed_end : (s : Segment) (rest : Bool) → (is_placed s && rest) ≡ true → s.region.end ≤ HEAP_START
placed_end s rest all = grind (arith, nat_tests)

placed_rest : (s rest : Bool) → (s && rest) ≡ true → rest ≡ true
placed_rest true rest all = all
placed_rest false rest all = cc

segment_or_rest : (image : Picture) (s : Segment) (rest : Option Segment) (b : Bool) → s.region.end ≤ HEAP_START → (HasText image rest → image.text_base + 4 * length image.words ≤ HEAP_START) → HasText image (cond b (Some s) rest) → image.text_base + 4 * length image.words ≤ HEAP_START
segment_or_rest image s rest true below others found = omega (arith, found.ends)
segment_or_rest image s rest false below others found = others found

below_heap : (image : Picture) (segments : List Segment) → list_all is_placed segments ≡ true → HasText image (find (λ (s : Segment). s.region.code) segments) → image.text_base + 4 * length image.words ≤ HEAP_START
below_heap image [] all text = absurd text
below_heap image (s ∷ rest) all text =
    segment_or_rest image s (find (λ (t : Segment). t.region.code) rest) s.region.code (placed_end s (list_all is_placed rest) all)
    (below_heap image rest (placed_rest (is_placed s) (list_all is_placed rest) all)) text

pub listed : (image : Picture) → IsImage image → IsListed (text_only image)
listed image is = record {
  some_words = is.some_words;
  few_words = is.few_words;
  aligned = is.aligned;
  inside = below_heap image image.segments is.placed is.text;
  entry = is.entry;
}
