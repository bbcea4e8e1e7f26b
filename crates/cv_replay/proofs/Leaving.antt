-- What is left of an entry's rows, one version after another.
use Rattle.std.proofs.Common.{◌≡◌, ◌<◌, ◌+◌, ◌-◌, ℕ, zero, suc, List, [], ◌∷◌, ◌++◌, length, drop, get_or, replicate, Some, refl, sym, ap, ◌∙◌, arith}
use Rattle.std.proofs.Math.Nat.{sub-zero}
use Rattle.std.specs.Prelude.{slice_get}
use Rattle.cv_base.specs.declared.entries.Adopted.{Adopted}
use Rattle.cv_histories.specs.Rows.{written}
use Rattle.cv_replay.specs.Left.{IsSomeLeft, left_of}
use Rattle.cv_replay.specs.Script.{AreCounted}

-- nothing of the first row is used
pub none_used : (told : List Adopted) → left_of told 0 ≡ written told
none_used [] = refl
none_used (a ∷ rows) = rw sub-zero refl

-- a row that has some left
one_left : (a : Adopted) (rest : List Adopted) (used : ℕ) → used < a.entries → left_of (a ∷ rest) used ≡ a.version ∷ left_of (a ∷ rest) (used + 1)
one_left a rest used some =
    let count : a.entries - used ≡ suc (a.entries - (used + 1)) = omega arith in
    ap (λ (k : ℕ). replicate k a.version ++ written rest) count

-- or has not
all_used : (a : Adopted) (rest : List Adopted) (used : ℕ) → used ≡ a.entries → left_of (a ∷ rest) used ≡ left_of rest 0
all_used a rest used all =
    let count : a.entries - used ≡ 0 = omega arith in
    ap (λ (k : ℕ). replicate k a.version ++ written rest) count ∙ sym (none_used rest)

abbrev pub no_row : Adopted
no_row = record { version = 0; entries = 0 }

-- what is left begins with the version of its first row
pub first_version : (rows : List Adopted) (row used : ℕ) → 0 < length (left_of (drop row rows) used) → IsSomeLeft (drop row rows) used → slice_get (left_of (drop row rows) used) 0 ≡ Some (get_or rows row no_row).version
first_version [] zero used some left = absurd (omega arith)
first_version [] (suc row) used some left = absurd (omega arith)
first_version (a ∷ rows) zero used some left = ap (λ (l : List ℕ). slice_get l 0) (one_left a rows used left)
first_version (a ∷ rows) (suc row) used some left = first_version rows row used some left

pub row_within : (rows : List Adopted) (row used : ℕ) → 0 < length (left_of (drop row rows) used) → row < length rows
row_within [] zero used some = absurd (omega arith)
row_within [] (suc row) used some = absurd (omega arith)
row_within (a ∷ rows) zero used some = omega arith
row_within (a ∷ rows) (suc row) used some = let rest = row_within rows row used some in omega arith

-- some of it is left
pub used_below : (rows : List Adopted) (row used : ℕ) → 0 < length (left_of (drop row rows) used) → IsSomeLeft (drop row rows) used → used < (get_or rows row no_row).entries
used_below [] zero used some left = absurd (omega arith)
used_below [] (suc row) used some left = absurd (omega arith)
used_below (a ∷ rows) zero used some left = left
used_below (a ∷ rows) (suc row) used some left = used_below rows row used some left

-- the row goes on
pub goes_on : (rows : List Adopted) (row used : ℕ) → 0 < length (left_of (drop row rows) used) → IsSomeLeft (drop row rows) used → left_of (drop row rows) (used + 1) ≡ drop 1 (left_of (drop row rows) used)
goes_on [] zero used some left = absurd (omega arith)
goes_on [] (suc row) used some left = absurd (omega arith)
goes_on (a ∷ rows) zero used some left = sym (ap (drop 1) (one_left a rows used left))
goes_on (a ∷ rows) (suc row) used some left = goes_on rows row used some left

pub stays_some : (rows : List Adopted) (row used : ℕ) → IsSomeLeft (drop row rows) used → used + 1 < (get_or rows row no_row).entries → IsSomeLeft (drop row rows) (used + 1)
stays_some [] zero used left more = tt
stays_some [] (suc row) used left more = tt
stays_some (a ∷ rows) zero used left more = more
stays_some (a ∷ rows) (suc row) used left more = stays_some rows row used left more

-- or ends
pub ends : (rows : List Adopted) (row used : ℕ) → 0 < length (left_of (drop row rows) used) → IsSomeLeft (drop row rows) used → used + 1 ≡ (get_or rows row no_row).entries → left_of (drop (suc row) rows) 0 ≡ drop 1 (left_of (drop row rows) used)
ends [] zero used some left last = absurd (omega arith)
ends [] (suc row) used some left last = absurd (omega arith)
ends (a ∷ rows) zero used some left last = sym (ap (drop 1) (one_left a rows used left ∙ ap (λ (l : List ℕ). a.version ∷ l) (all_used a rows (used + 1) last)))
ends (a ∷ rows) (suc row) used some left last = ends rows row used some left last

pub next_some : (rows : List Adopted) (row : ℕ) → AreCounted rows → IsSomeLeft (drop row rows) 0
next_some [] zero counted = tt
next_some [] (suc row) counted = tt
next_some (a ∷ rows) zero counted = let some = counted.0 in omega arith
next_some (a ∷ rows) (suc row) counted = next_some rows row counted.1
