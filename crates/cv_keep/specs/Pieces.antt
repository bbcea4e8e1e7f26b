-- The pieces of an image (docs/FORMATS.md, "The kept file").
use Rattle.std.specs.Prelude.{ℕ, ◌+◌, ◌^◌, zero, suc, nat_lt, nat_le, Bool, ◌&&◌, if◌then◌else◌, List, [], ◌∷◌, ◌++◌, length, take, drop, slice_index, Option, Some, None}
use Rattle.std.specs.Int.{from_le_bytes, to_le_bytes, w32}

-- the number in the four bytes behind the first one, the low byte first
abbrev pub size_of : List ℕ → ℕ
size_of image = from_le_bytes w32 (slice_index image 1 ∷ slice_index image 2 ∷ slice_index image 3 ∷ slice_index image 4 ∷ [])

-- whether it begins with a byte that is not 0, four bytes that give a number of at most 268,435,456, and so many bytes more
abbrev pub fits : List ℕ → Bool
fits image = nat_lt 0 (slice_index image 0) && nat_le (size_of image) (2 ^ 28) && nat_le (5 + size_of image) (length image)

-- the first piece: these bytes, where it begins so
unfoldable pub next : List ℕ → Option (List ℕ)
next image = if fits image then Some (take (size_of image) (drop 5 image)) else None

-- a piece, where there is one, and more behind it
abbrev pub and_more : Option (List ℕ) → (List ℕ → List (List ℕ)) → List (List ℕ)
and_more None more = []
and_more (Some piece) more = piece ∷ more piece

-- the first n pieces, or all where there are fewer; the rest is read from behind a piece
abbrev pub first_pieces : ℕ → List ℕ → List (List ℕ)
first_pieces zero image = []
first_pieces (suc n) image = and_more (next image) (λ piece. first_pieces n (drop (5 + length piece) image))

-- the pieces of an image: each takes at least a byte, so there are no more than bytes
unfoldable pub pieces : List ℕ → List (List ℕ)
pieces image = first_pieces (length image) image

-- the end place, behind these pieces
abbrev pub end_of : List (List ℕ) → ℕ
end_of [] = 0
end_of (piece ∷ pieces) = 5 + length piece + end_of pieces

-- what is written behind the byte at the end place for one more piece: its length, the piece, and the byte at the new end place
abbrev pub frame : List ℕ → List ℕ
frame piece = to_le_bytes w32 (length piece) ++ piece ++ 0 ∷ []
