-- Places of the text and their addresses.
use Rattle.std.proofs.Common.{◌≡◌, ℕ, Bool, true, false, ◌&&◌, ◌+◌, ◌-◌, ◌*◌, ◌/◌, ◌^◌, ◌<◌, ◌≤◌, List, [], ◌∷◌, length, Option, Some, cond, get_or, refl, sym, subst, ap, ◌∙◌, arith}
use Rattle.std.specs.List.{find, list_all}
use Rattle.std.specs.Prelude.{if◌then◌else◌, nat_lt, IsTrue, map, slice_index}
use Rattle.std.proofs.lemmas.Bool.Decides.{nat_tests}
use Rattle.std.proofs.lemmas.List.{get_or-map}
use Rattle.cv_isa.specs.DecodeTable.{meaning_of}
use Rattle.cv_isa.specs.Instruction.{Instruction}
use Rattle.cv_base.specs.declared.TheConstants.{HEAP_START}
use Rattle.cv_base.specs.declared.image.Segment.{Segment}
use Rattle.cv_base.specs.Picture.{Picture, is_point, word_at}
use Rattle.cv_base.specs.WellFormed.{IsImage, HasText, is_placed}
use Rattle.cv_machine.specs.Quick.{address_at}
use Rattle.cv_runs.specs.Arithmetic.{plus32}
use Rattle.cv_runs.specs.Effects.{gone_on}
use Rattle.cv_runs.specs.State.{State, Outcome, Next, pc_of, moved}

placed_end : (s : Segment) (rest : Bool) → (is_placed s && rest) ≡ true → s.region.end ≤ HEAP_START
placed_end s rest all = grind (arith, nat_tests)

placed_rest : (s rest : Bool) → (s && rest) ≡ true → rest ≡ true
placed_rest true rest all = all
placed_rest false rest all = cc

segment_or_rest : (image : Picture) (s : Segment) (rest : Option Segment) (b : Bool) → s.region.end ≤ HEAP_START → (HasText image rest → image.text_base + 4 * length image.words ≤ HEAP_START) → HasText image (cond b (Some s) rest) → image.text_base + 4 * length image.words ≤ HEAP_START
segment_or_rest image s rest true below others found = omega (arith, found.ends)
segment_or_rest image s rest false below others found = others found

below_heap : (image : Picture) (segments : List Segment) → list_all is_placed segments ≡ true → HasText image (find (λ (s : Segment). s.region.code) segments) → image.text_base + 4 * length image.words ≤ HEAP_START
below_heap image [] all text = absurd text
below_heap image (s ∷ rest) all text =
    segment_or_rest image s (find (λ (t : Segment). t.region.code) rest) s.region.code (placed_end s (list_all is_placed rest) all)
    (below_heap image rest (placed_rest (is_placed s) (list_all is_placed rest) all)) text

-- the text lies below the heap
pub text_below : (image : Picture) → IsImage image → image.text_base + 4 * length image.words ≤ HEAP_START
text_below image is = below_heap image image.segments is.placed is.text

pub point_at : (image : Picture) (at : ℕ) → at < length image.words → is_point image (address_at image at) ≡ true
point_at image at within = grind (arith, nat_tests)

pub next_address : (image : Picture) (at : ℕ) → image.text_base + 4 * length image.words ≤ HEAP_START → at < length image.words → plus32 (address_at image at) 4 ≡ address_at image (at + 1)
next_address image at low within = omega arith

pub next_point : (image : Picture) (at : ℕ) → image.text_base + 4 * length image.words ≤ HEAP_START → at + 1 < length image.words → is_point image (plus32 (address_at image at) 4) ≡ true
next_point image at low within = rw (next_address image at low (omega arith)) (point_at image (at + 1) within)

on_true : (b : Bool) (u v : Outcome) → b ≡ true → ◌≡◌ {A = Outcome} (if b then u else v) u
on_true true u v e = refl
on_true false u v e = cc

-- on to a next word that is one
pub gone_at : (image : Picture) (s : State) (next : ℕ) (transfer : Bool) → is_point image (plus32 (pc_of s) 4) ≡ true → plus32 (pc_of s) 4 ≡ next → gone_on image s transfer ≡ Next (moved s next) transfer
gone_at image s next transfer point is =
    on_true (is_point image (plus32 (pc_of s) 4)) (Next (moved s (plus32 (pc_of s) 4)) transfer) _ point ∙ ap (λ (a : ℕ). Next (moved s a) transfer) is

-- the same of an image `q` that is `p`, whose fields are known
pub base_fits : (p q : Picture) (at : ℕ) → p ≡ q → IsImage p → at < length q.words → p.text_base + 4 * at < 2 ^ 32
base_fits p q at e is within =
    let low = text_below p is in
    let same : length p.words ≡ length q.words = ap (λ (r : Picture). length r.words) e in
    omega arith

less : (a n : ℕ) → IsTrue (nat_lt a n) → a < n
less a n h = grind (arith, nat_tests)

pub next_point_of : (p q : Picture) (at n : ℕ) → p ≡ q → IsImage p → n ≡ length p.words → IsTrue (nat_lt (at + 1) n) → is_point q (plus32 (address_at q at) 4) ≡ true
next_point_of p q at n e is count h =
    let low = text_below p is in
    let more = less (at + 1) n h in
    let w : at + 1 < length p.words = omega arith in
    subst (λ (r : Picture). is_point r (plus32 (address_at r at) 4) ≡ true) e (next_point p at low w)

pub next_address_of : (p q : Picture) (at : ℕ) → p ≡ q → IsImage p → at < length q.words → plus32 (address_at q at) 4 ≡ address_at q (at + 1)
next_address_of p q at e is within =
    let low = text_below p is in
    let same : length p.words ≡ length q.words = ap (λ (r : Picture). length r.words) e in
    subst (λ (r : Picture). plus32 (address_at r at) 4 ≡ address_at r (at + 1)) e (next_address p at low (omega arith))

here : (base at : ℕ) → (base + 4 * at - base) / 4 ≡ at
here base at = omega arith

-- the instruction at a place is what the word there means
pub instruction_at_place : (p q : Picture) (insts : List (Option Instruction)) (at : ℕ) (o : Option Instruction) → p ≡ q → insts ≡ map meaning_of p.words → at < length q.words → o ≡ get_or insts at o → o ≡ meaning_of (word_at q (address_at q at))
instruction_at_place p q insts at o e is within found =
    let words : insts ≡ map meaning_of q.words = is ∙ ap (λ (r : Picture). map meaning_of r.words) e in
    found
    ∙ ap (λ (xs : List (Option Instruction)). get_or xs at o) words
    ∙ get_or-map meaning_of q.words at 0 o within
    ∙ sym (ap (λ (k : ℕ). meaning_of (slice_index q.words k)) (here q.text_base at))
