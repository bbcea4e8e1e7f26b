-- What `recover` and `keep` leave on a disk (docs/FORMATS.md, "The kept file").
use Rattle.std.specs.Prelude.{◌≡◌, ◌⊎◌, ℕ, List, [], ◌∷◌, ◌++◌, length, take, slice_index_or}
use Rattle.cv_edge.specs.Disk.{Meaning, Only, LeavesOnly, Still, Elapses}
use Rattle.cv_keep.specs.Pieces.{pieces, end_of}

-- a content with this end place, at which the byte 0 stands
pub record Settled (content : List ℕ) (end : ℕ) : Type 0 where
  pub place : end ≡ end_of (pieces content)
  -- 1 would stand for a byte that is missing
  pub closed : slice_index_or content end 1 ≡ 0

-- where the disk tells: its content is settled with this end place, and is its only image
abbrev pub IsSettled : {D : Type 0} → Meaning D → D → ℕ → Type 0
IsSettled means disk end = means.tells → Settled (means.content disk) end × Only (means.content disk) (means.image disk)

-- the image has these pieces, or these and one more
abbrev pub IsBeforeOrAfter : List (List ℕ) → List ℕ → List ℕ → Type 0
IsBeforeOrAfter old piece image = (pieces image ≡ old) ⊎ (pieces image ≡ old ++ piece ∷ [])

-- each image begins with these bytes
abbrev pub Fronts : {D : Type 0} → Meaning D → D → List ℕ → Type 0
Fronts means disk front = (c : List ℕ) → means.image disk c → take (length front) c ≡ front

-- each image at the end, and at a moment from old to new, begins with these bytes
pub record KeepsFront {D : Type 0} (means : Meaning D) (old new : D) (front : List ℕ) : Type 0 where
  pub now : Fronts means new front
  pub leaves : LeavesOnly means old new (λ c. take (length front) c ≡ front)

-- nothing but time has changed
pub record Quiet {D : Type 0} (means : Meaning D) (old new : D) : Type 0 where
  pub still : Still means old new
  pub time : Elapses means old new
