-- Laws of disks, and of a disk in memory. They are proofs: nothing here has to be believed.
use Rattle.std.proofs.Common.{◌≡◌, ◌⊎◌, inl, inr, ℕ, ◌+◌, ◌<◌, ◌≤◌, min, Bool, true, false, List, [], ◌∷◌, ◌++◌, length, take, drop, refl, sym, ap, ◌∙◌, arith, append_assoc, length-append, length-drop, subst, ⊎_elim}
use Rattle.std.proofs.lemmas.List.{take_min, take_at, drop_at, drop_all, length-take}
use Rattle.std.proofs.lemmas.Bool.{cases_lt}
use Rattle.cv_edge.specs.Disk.{LeavesOnly, Meaning, written, Torn}
use Rattle.cv_edge.specs.DiskMemory.{content_of, IsImage, IsImageSince}
use Rattle.cv_edge.specs.declared.mem_disk.Row.{Row}
use Rattle.cv_edge.specs.declared.mem_disk.Row.TheVariants.{Looked, Wrote, Synced}

module _ {D : Type 0} (means : Meaning D) where
  -- no call leaves what the images of this moment have
  pub leaves_none : (old : D) (P : List ℕ → Type 0) → ((c : List ℕ) → means.image_since old (means.moment old) c → P c) → LeavesOnly means old old P
  leaves_none old P here = record { later = omega arith; each = here; before = λ t c le left. inl left }

  -- calls behind calls leave what both leave
  pub leaves_then : (a b c : D) (P : List ℕ → Type 0) → LeavesOnly means a b P → LeavesOnly means b c P → LeavesOnly means a c P
  leaves_then a b c P first second = record {
    later = omega (arith, first.later, second.later);
    each = λ x left. ⊎_elim (first.each x) (λ has. has) (second.before (means.moment a) x first.later left);
    before = λ t x le left. ⊎_elim (first.before t x le) (λ has. inr has) (second.before t x (omega (arith, le, first.later)) left);
  }

  -- what follows of each image
  pub leaves_weaker : (a b : D) (P Q : List ℕ → Type 0) → ((c : List ℕ) → P c → Q c) → LeavesOnly means a b P → LeavesOnly means a b Q
  leaves_weaker a b P Q gives all = record {
    later = all.later;
    each = λ c left. gives c (all.each c left);
    before = λ t c le left. ⊎_elim (λ since. inl since) (λ has. inr (gives c has)) (all.before t c le left);
  }

-- nothing of a write may be there
pub torn_none : (at n : ℕ) (old : List ℕ) → Torn at n old old
torn_none at n old = record { below = take_min at old; above = refl; no_shorter = omega arith }

length-written : (at : ℕ) (piece old : List ℕ) → length (take at old ++ piece) ≡ min at (length old) + length piece
length-written at piece old = omega (arith, length-append (take at old) piece, length-take at old)

behind : (at : ℕ) (piece old : List ℕ) → (length old < at) ⊎ (at ≤ length old) → drop (at + length piece) (written at piece old) ≡ drop (at + length piece) old
behind at piece old (inr within) =
    drop_at (take at old ++ piece) (drop (at + length piece) old) (at + length piece) (omega (arith, length-written at piece old))
behind at piece old (inl past) =
    let none : drop (at + length piece) old ≡ [] = drop_all (at + length piece) old (omega arith) in
    drop_all (at + length piece) (written at piece old)
    (omega (arith, length-append (take at old ++ piece) (drop (at + length piece) old), length-written at piece old, ap length none))
    ∙ sym none

-- all of a write may be there
pub torn_all : (at : ℕ) (piece old : List ℕ) → Torn at (length piece) old (written at piece old)
torn_all at piece old =
    let rest = drop (at + length piece) old in
    record {
      below = ap (λ (l : List ℕ). take (min at (length old)) l) (append_assoc (take at old) piece rest) ∙ take_at (take at old) (piece ++ rest) (min at (length old)) (length-take at old);
      above = behind at piece old (cases_lt (length old) at);
      no_shorter = omega (arith, length-append (take at old ++ piece) rest, length-written at piece old, length-drop (at + length piece) old);
    }

-- the content is one of the images
pub content_is_image : (rows : List Row) → IsImage rows (content_of rows)
content_is_image [] = refl
content_is_image (Looked ∷ rows) = content_is_image rows
content_is_image (Wrote at piece true ∷ rows) = (content_of rows, content_is_image rows, torn_all at piece (content_of rows))
content_is_image (Wrote at piece false ∷ rows) = (content_of rows, content_is_image rows, torn_none at (length piece) (content_of rows))
content_is_image (Synced true ∷ rows) = refl
content_is_image (Synced false ∷ rows) = content_is_image rows

-- an image now is one since any moment
pub image_counts : (rows : List Row) (t : ℕ) (c : List ℕ) → IsImage rows c → IsImageSince rows t c
image_counts [] t c now = now
image_counts (row ∷ rows) t c now = inl now

-- since this moment there is no other
pub only_this : (rows : List Row) (c : List ℕ) → IsImageSince rows (length rows) c → IsImage rows c
only_this [] c left = left
only_this (row ∷ rows) c (inl now) = now
only_this (row ∷ rows) c (inr (late, left)) = absurd (omega arith)

-- an image after a sync was one before
pub sync_images : (done : Bool) (rows : List Row) (c : List ℕ) → IsImage (Synced done ∷ rows) c → IsImage rows c
sync_images true rows c is = subst (λ (d : List ℕ). IsImage rows d) (sym is) (content_is_image rows)
sync_images false rows c left = left
