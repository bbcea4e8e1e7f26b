-- What a disk means, what its calls do to its content, and what a crash may leave (docs/FORMATS.md, "The disk model").
use Rattle.std.specs.Prelude.{◌≡◌, ◌⊎◌, ℕ, ◌+◌, ◌≤◌, min, List, [], ◌++◌, length, take, drop}

-- What a disk means: whether it tells; its content; the images that a crash now may leave; a moment, as a number;
-- the images that a crash at some moment since a given one might have left; its count of faults
pub record Meaning (D : Type 0) : Type 1 where
  pub tells : Type 0
  pub content : D → List ℕ
  pub image : D → List ℕ → Type 0
  pub moment : D → ℕ
  pub image_since : D → ℕ → List ℕ → Type 0
  pub faults : D → ℕ

-- the bytes, with a piece written at a place
abbrev pub written : ℕ → List ℕ → List ℕ → List ℕ
written at piece old = take at old ++ piece ++ drop (at + length piece) old

-- What a crash may leave of a write of n bytes. The range holds any bytes. An image that ends before the range's end may
-- grow up to it, by any bytes. All else stays
pub record Torn (at n : ℕ) (old new : List ℕ) : Type 0 where
  pub below : take (min at (length old)) new ≡ take at old
  pub above : drop (at + n) new ≡ drop (at + n) old
  pub no_shorter : length old ≤ length new

-- each new image is made by the step from an old one
abbrev pub Follows : (List ℕ → List ℕ → Type 0) → (List ℕ → Type 0) → (List ℕ → Type 0) → Type 0
Follows step old new = (c : List ℕ) → new c → (d : List ℕ) × old d × step d c

-- this is the only image
abbrev pub Only : List ℕ → (List ℕ → Type 0) → Type 0
Only content images = (c : List ℕ) → images c → c ≡ content

-- the same content and the same images
pub record Still {D : Type 0} (means : Meaning D) (old new : D) : Type 0 where
  pub content : means.tells → means.content new ≡ means.content old
  pub fewer : (c : List ℕ) → means.image new c → means.image old c
  pub more : (c : List ℕ) → means.image old c → means.image new c

-- Time goes on: the images since a moment are those that were images since then, and the images now
pub record Elapses {D : Type 0} (means : Meaning D) (old new : D) : Type 0 where
  pub later : means.moment old ≤ means.moment new
  pub nothing_else : (t : ℕ) (c : List ℕ) → t ≤ means.moment old → means.image_since new t c → means.image_since old t c ⊎ means.image new c
  pub keeps : (t : ℕ) (c : List ℕ) → t ≤ means.moment old → means.image_since old t c → means.image_since new t c

-- each image at a moment from old to new has P
pub record LeavesOnly {D : Type 0} (means : Meaning D) (old new : D) (P : List ℕ → Type 0) : Type 0 where
  pub later : means.moment old ≤ means.moment new
  pub each : (c : List ℕ) → means.image_since new (means.moment old) c → P c
  -- for a run that began earlier
  pub before : (t : ℕ) (c : List ℕ) → t ≤ means.moment old → means.image_since new t c → means.image_since old t c ⊎ P c

-- a disk that does not tell: it means its count of faults alone
abbrev pub untold : Meaning ℕ
untold = record { tells = ⊥; content = λ _. []; image = λ _ _. ⊥; moment = λ _. 0; image_since = λ _ _ _. ⊥; faults = λ faults. faults }
