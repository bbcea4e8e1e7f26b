-- What the pieces of an image are made of.
use Rattle.std.proofs.Common.{◌≡◌, ◌⊎◌, inl, inr, ℕ, zero, suc, ◌+◌, ◌^◌, ◌<◌, ◌≤◌, min, w32, nat_lt, nat_le, ◌&&◌, if◌then◌else◌, Bool, true, false, List, [], ◌∷◌, ◌++◌, length, take, drop, get_or, Option, Some, None, refl, sym, ap, ◌∙◌, subst, arith, append_assoc, length-append, length-drop}
use Rattle.std.proofs.lemmas.List.{take-take, length-take, get_or-take, drop-take, drop-drop, take_at, drop_at}
use Rattle.std.proofs.lemmas.Bool.Decides.{nat_tests}
use Rattle.std.proofs.lemmas.Nat.{from_le_bytes-to_le_bytes_4}
use Rattle.std.specs.Int.{from_le_bytes}
use Rattle.cv_keep.specs.Pieces.{size_of, fits, next, and_more, first_pieces, pieces, end_of, frame}

-- an image that begins with this piece
pub record Begins (image piece : List ℕ) : Type 0 where
  pub gate : 0 < get_or image 0 0
  pub size : size_of image ≡ length piece
  pub short : length piece ≤ 2 ^ 28
  pub within : 5 + length piece ≤ length image
  pub bytes : take (length piece) (drop 5 image) ≡ piece

-- the test of a beginning, by its first byte, its number and its length
abbrev test : ℕ → ℕ → ℕ → Bool
test gate n len = nat_lt 0 gate && nat_le n (2 ^ 28) && nat_le (5 + n) len

passes : (gate n len : ℕ) → 0 < gate → n ≤ 2 ^ 28 → 5 + n ≤ len → test gate n len ≡ true
passes gate n len a b c = grind (arith, nat_tests)

passed_gate : (gate n len : ℕ) → test gate n len ≡ true → 0 < gate
passed_gate gate n len is = grind (arith, nat_tests)

passed_size : (gate n len : ℕ) → test gate n len ≡ true → n ≤ 2 ^ 28
passed_size gate n len is = grind (arith, nat_tests)

passed_within : (gate n len : ℕ) → test gate n len ≡ true → 5 + n ≤ len
passed_within gate n len is = grind (arith, nat_tests)

pub next_of : (image piece : List ℕ) → Begins image piece → next image ≡ Some piece
unfolding next
next_of image piece b =
    let whole : fits image ≡ true = passes (get_or image 0 0) (size_of image) (length image) b.gate (subst (λ (n : ℕ). n ≤ 2 ^ 28) (sym b.size) b.short) (subst (λ (n : ℕ). 5 + n ≤ length image) (sym b.size) b.within) in
    ap (λ (t : Bool). if t then Some (take (size_of image) (drop 5 image)) else None) whole ∙ ap (λ (n : ℕ). Some (take n (drop 5 image))) b.size ∙ ap (λ (l : List ℕ). Some l) b.bytes

begins_by : (image piece : List ℕ) (t : Bool) → fits image ≡ t → (if t then Some (take (size_of image) (drop 5 image)) else None) ≡ Some piece → Begins image piece
begins_by image piece true whole is =
    let bytes : take (size_of image) (drop 5 image) ≡ piece = cc in
    let short = passed_size (get_or image 0 0) (size_of image) (length image) whole in
    let within = passed_within (get_or image 0 0) (size_of image) (length image) whole in
    let size : size_of image ≡ length piece = size_is image piece (size_of image) within bytes in
    record {
      gate = passed_gate (get_or image 0 0) (size_of image) (length image) whole;
      size = size;
      short = subst (λ (n : ℕ). n ≤ 2 ^ 28) size short;
      within = subst (λ (n : ℕ). 5 + n ≤ length image) size within;
      bytes = subst (λ (n : ℕ). take n (drop 5 image) ≡ piece) size bytes;
    }
  where
    size_is : (image piece : List ℕ) (n : ℕ) → 5 + n ≤ length image → take n (drop 5 image) ≡ piece → n ≡ length piece
    size_is image piece n within bytes = omega (arith, ap length bytes, length-take n (drop 5 image), length-drop 5 image)
begins_by image piece false whole is = cc

pub begins : (image piece : List ℕ) → next image ≡ Some piece → Begins image piece
unfolding next
begins image piece is = begins_by image piece (fits image) refl is

-- no piece, where each would be absurd
pub none_by : (o : Option (List ℕ)) → ((p : List ℕ) → o ≡ Some p → ⊥) → o ≡ None
none_by None never = refl
none_by (Some p) never = absurd (never p refl)

-- a beginning that is the same begins with the same piece
pub next_same : (c d p : List ℕ) → next d ≡ Some p → take (5 + length p) c ≡ take (5 + length p) d → next c ≡ Some p
next_same c d p is same =
    let b = begins d p is in
    let at : (i : ℕ) → i < 5 → get_or c i 0 ≡ get_or d i 0 = λ i less.
    sym (get_or-take (5 + length p) c i 0 (omega arith)) ∙ ap (λ (l : List ℕ). get_or l i 0) same ∙ get_or-take (5 + length p) d i 0 (omega arith) in
    let one = at 1 (omega arith) in
    let two = at 2 (omega arith) in
    let three = at 3 (omega arith) in
    let four = at 4 (omega arith) in
    let sizes : size_of c ≡ size_of d = λ k. from_le_bytes w32 (one k ∷ two k ∷ three k ∷ four k ∷ []) in
    let lengths : length (take (5 + length p) c) ≡ length (take (5 + length p) d) = ap length same in
    next_of c p (record {
      gate = subst (λ (n : ℕ). 0 < n) (sym (at 0 (omega arith))) b.gate;
      size = sizes ∙ b.size;
      short = b.short;
      within = enough (5 + length p) (length c) (length d) b.within (sym (length-take (5 + length p) c) ∙ lengths ∙ length-take (5 + length p) d);
      bytes = sym (drop-take 5 (length p) c) ∙ ap (λ (l : List ℕ). drop 5 l) same ∙ drop-take 5 (length p) d ∙ b.bytes;
    })
  where
    enough : (n a b : ℕ) → n ≤ b → min n a ≡ min n b → n ≤ a
    enough n a b le is = omega arith

pub next_closed : (image : List ℕ) → get_or image 0 0 ≡ 0 → next image ≡ None
next_closed image closed = none_by (next image) (λ p is. let b = begins image p is in omega (arith, b.gate))

pub next_tiny : (image : List ℕ) → length image < 5 → next image ≡ None
next_tiny image tiny = none_by (next image) (λ p is. let b = begins image p is in omega (arith, b.within))

pub next_long : (image : List ℕ) → 2 ^ 28 < size_of image → next image ≡ None
next_long image long = none_by (next image) (λ p is. let b = begins image p is in over (size_of image) (length p) b.size b.short long)
  where
    over : (n m : ℕ) → n ≡ m → m ≤ 2 ^ 28 → 2 ^ 28 < n → ⊥
    over n m is le less = omega arith

pub next_short : (image : List ℕ) → length image < 5 + size_of image → next image ≡ None
next_short image short = none_by (next image) (λ p is. let b = begins image p is in over (size_of image) (length p) (length image) b.size b.within short)
  where
    over : (n m k : ℕ) → n ≡ m → 5 + m ≤ k → k < 5 + n → ⊥
    over n m k is le less = omega arith

pub next_is : (image : List ℕ) → 0 < get_or image 0 0 → size_of image ≤ 2 ^ 28 → 5 + size_of image ≤ length image → next image ≡ Some (take (size_of image) (drop 5 image))
unfolding next
next_is image ajar short within =
    ap (λ (t : Bool). if t then Some (take (size_of image) (drop 5 image)) else None) (passes (get_or image 0 0) (size_of image) (length image) ajar short within)

-- a frame that is not whole begins no piece, whatever its first byte is
pub next_gate : (c d : List ℕ) → drop 1 c ≡ drop 1 d → next d ≡ None → (length d ≡ 0) ⊎ (0 < get_or d 0 0) → next c ≡ None
next_gate [] d same none broken = next_closed [] refl
next_gate (x ∷ c) [] same none broken =
    none_by (next (x ∷ c)) (λ p is. let b = begins (x ∷ c) p is in omega (arith, b.within, ap length same))
next_gate (x ∷ c) (y ∷ d) same none (inl empty) = absurd (omega arith)
next_gate (x ∷ c) (y ∷ d) same none (inr ajar) = none_by (next (x ∷ c)) (λ p is.
    let b = begins (x ∷ c) p is in
    let there : next (y ∷ c) ≡ Some p = next_of (y ∷ c) p (record { gate = ajar; size = b.size; short = b.short; within = b.within; bytes = b.bytes }) in
    let here : next (y ∷ d) ≡ Some p = subst (λ (l : List ℕ). next (y ∷ l) ≡ Some p) same there in
    cc)

-- by the length of an image
by_length_to : (P : List ℕ → Type 0) → ((d : List ℕ) → ((e : List ℕ) → length e < length d → P e) → P d) → (n : ℕ) (d : List ℕ) → length d ≤ n → P d
by_length_to P f zero d le = f d (λ e less. absurd (omega arith))
by_length_to P f (suc n) d le = f d (λ e less. by_length_to P f n e (omega arith))

pub by_length : (P : List ℕ → Type 0) → ((d : List ℕ) → ((e : List ℕ) → length e < length d → P e) → P d) → (d : List ℕ) → P d
by_length P f d = by_length_to P f (length d) d (omega arith)

more_same : (o : Option (List ℕ)) (f g : List ℕ → List (List ℕ)) → ((p : List ℕ) → f p ≡ g p) → and_more o f ≡ and_more o g
more_same None f g same = refl
more_same (Some p) f g same = ap (λ (l : List (List ℕ)). p ∷ l) (same p)

no_more : (o : Option (List ℕ)) (f : List ℕ → List (List ℕ)) → o ≡ None → and_more o f ≡ []
no_more None f is = refl
no_more (Some p) f is = cc

empty : (image : List ℕ) → length image ≤ 0 → get_or image 0 0 ≡ 0
empty [] le = refl
empty (x ∷ image) le = absurd (omega arith)

-- a number as large as the length is enough
fuel : (n m : ℕ) (image : List ℕ) → length image ≤ n → length image ≤ m → first_pieces n image ≡ first_pieces m image
fuel zero zero image a b = refl
fuel zero (suc m) image a b = sym (no_more (next image) _ (next_closed image (empty image a)))
fuel (suc n) zero image a b = no_more (next image) _ (next_closed image (empty image b))
fuel (suc n) (suc m) image a b =
    more_same (next image) _ _ (λ p. fuel n m (drop (5 + length p) image) (omega (arith, length-drop (5 + length p) image)) (omega (arith, length-drop (5 + length p) image)))

pub pieces_some : (image p : List ℕ) → next image ≡ Some p → pieces image ≡ p ∷ pieces (drop (5 + length p) image)
unfolding pieces
pieces_some image p is =
    let rest = drop (5 + length p) image in
    fuel (length image) (suc (length image)) image (omega arith) (omega arith)
    ∙ ap (λ (o : Option (List ℕ)). and_more o (λ q. first_pieces (length image) (drop (5 + length q) image))) is
    ∙ ap (λ (l : List (List ℕ)). p ∷ l) (fuel (length image) (length rest) rest (omega (arith, length-drop (5 + length p) image)) (omega arith))

pub pieces_none : (image : List ℕ) → next image ≡ None → pieces image ≡ []
unfolding pieces
pieces_none image is =
    fuel (length image) (suc (length image)) image (omega arith) (omega arith) ∙ no_more (next image) _ is

pub next_frame : (gate : ℕ) (p rest : List ℕ) → 0 < gate → length p ≤ 2 ^ 28 → next (gate ∷ (frame p ++ rest)) ≡ Some p
next_frame gate p rest ajar short = next_of (gate ∷ (frame p ++ rest)) p (record {
  gate = ajar;
  size = from_le_bytes-to_le_bytes_4 (length p) (omega arith);
  short = short;
  within = omega (arith, length-append p (0 ∷ []), length-append (p ++ 0 ∷ []) rest);
  bytes = ap (λ (l : List ℕ). take (length p) l) (append_assoc p (0 ∷ []) rest) ∙ take_at p (0 ∷ rest) (length p) refl;
})

pub behind_frame : (gate : ℕ) (p rest : List ℕ) → drop (5 + length p) (gate ∷ (frame p ++ rest)) ≡ 0 ∷ rest
behind_frame gate p rest =
    sym (drop-drop (length p) 5 (gate ∷ (frame p ++ rest))) ∙ ap (λ (l : List ℕ). drop (length p) l) (append_assoc p (0 ∷ []) rest) ∙ drop_at p (0 ∷ rest) (length p) refl

-- an ajar frame is one piece
pub pieces_frame : (gate : ℕ) (p rest : List ℕ) → 0 < gate → length p ≤ 2 ^ 28 → pieces (gate ∷ (frame p ++ rest)) ≡ p ∷ []
pieces_frame gate p rest ajar short =
    pieces_some (gate ∷ (frame p ++ rest)) p (next_frame gate p rest ajar short)
    ∙ ap (λ (l : List (List ℕ)). p ∷ l) (ap pieces (behind_frame gate p rest) ∙ pieces_none (0 ∷ rest) (next_closed (0 ∷ rest) refl))

-- what an image that begins as another one up to that one's end place has: the same pieces, and those behind them
abbrev From : List ℕ → Type 0
From d = (c : List ℕ) → take (end_of (pieces d)) c ≡ take (end_of (pieces d)) d → pieces c ≡ pieces d ++ pieces (drop (end_of (pieces d)) c)

shorter : (d p : List ℕ) → next d ≡ Some p → length (drop (5 + length p) d) < length d
shorter d p is = let b = begins d p is in omega (arith, b.within, length-drop (5 + length p) d)

from_by : (d : List ℕ) → ((e : List ℕ) → length e < length d → From e) → (o : Option (List ℕ)) → next d ≡ o → From d
from_by d each None is c same =
    let P : List (List ℕ) → Type 0 = λ ps. pieces c ≡ ps ++ pieces (drop (end_of ps) c) in
    subst P (sym (pieces_none d is)) refl
from_by d each (Some p) is c same =
    let rest = drop (5 + length p) d in
    let k = 5 + length p in
    let n = end_of (pieces rest) in
    let all : pieces d ≡ p ∷ pieces rest = pieces_some d p is in
    let Same : List (List ℕ) → Type 0 = λ ps. take (end_of ps) c ≡ take (end_of ps) d in
    let whole : take (k + n) c ≡ take (k + n) d = subst Same all same in
    let first : take k c ≡ take k d = sym (take-take k (k + n) c (omega arith)) ∙ ap (λ (l : List ℕ). take k l) whole ∙ take-take k (k + n) d (omega arith) in
    let behind : take n (drop k c) ≡ take n (drop k d) = sym (drop-take k n c) ∙ ap (λ (l : List ℕ). drop k l) whole ∙ drop-take k n d in
    let P : List (List ℕ) → Type 0 = λ ps. pieces c ≡ ps ++ pieces (drop (end_of ps) c) in
    subst P (sym all)
    (pieces_some c p (next_same c d p is first)
    ∙ ap (λ (l : List (List ℕ)). p ∷ l) (each rest (shorter d p is) (drop k c) behind)
    ∙ ap (λ (l : List ℕ). p ∷ (pieces rest ++ pieces l)) (drop-drop n k c))

pub pieces_from : (d : List ℕ) → From d
pieces_from d = by_length From (λ e each. from_by e each (next e) refl) d

-- no piece begins behind the pieces, and they lie within the image
pub record Whole (d : List ℕ) : Type 0 where
  pub within : end_of (pieces d) ≤ length d
  pub none : next (drop (end_of (pieces d)) d) ≡ None

whole_by : (d : List ℕ) → ((e : List ℕ) → length e < length d → Whole e) → (o : Option (List ℕ)) → next d ≡ o → Whole d
whole_by d each None is =
    let Within : List (List ℕ) → Type 0 = λ ps. end_of ps ≤ length d in
    let Ends : List (List ℕ) → Type 0 = λ ps. next (drop (end_of ps) d) ≡ None in
    record { within = subst Within (sym (pieces_none d is)) (omega arith); none = subst Ends (sym (pieces_none d is)) is }
whole_by d each (Some p) is =
    let k = 5 + length p in
    let rest = drop k d in
    let w = each rest (shorter d p is) in
    let b = begins d p is in
    let Within : List (List ℕ) → Type 0 = λ ps. end_of ps ≤ length d in
    let Ends : List (List ℕ) → Type 0 = λ ps. next (drop (end_of ps) d) ≡ None in
    record {
      within = subst Within (sym (pieces_some d p is)) (omega (arith, w.within, b.within, length-drop k d));
      none = subst Ends (sym (pieces_some d p is)) (subst (λ (l : List ℕ). next l ≡ None) (drop-drop (end_of (pieces rest)) k d) w.none);
    }

pub whole : (d : List ℕ) → Whole d
whole d = by_length Whole (λ e each. whole_by e each (next e) refl) d

pub end_of_push : (ps : List (List ℕ)) (p : List ℕ) → end_of (ps ++ p ∷ []) ≡ end_of ps + (5 + length p)
end_of_push [] p = omega arith
end_of_push (q ∷ ps) p = omega (arith, end_of_push ps p)

-- one piece more was found
pub found_more : (found : List (List ℕ)) (p : List ℕ) (rest behind all : List (List ℕ)) → found ++ rest ≡ all → rest ≡ p ∷ behind → (found ++ p ∷ []) ++ behind ≡ all
found_more found p rest behind all told is = append_assoc found (p ∷ []) behind ∙ ap (λ (l : List (List ℕ)). found ++ l) (sym is) ∙ told
