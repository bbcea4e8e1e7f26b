-- Lists that begin one another, and counts, for the office's rule (docs/REPAIR.md, "The office").
use Rattle.std.specs.Prelude.{◌≡◌, ◌≤◌, ◌<◌, ◌+◌, ◌==◌, ℕ, nat_le, nat_lt, Bool, true, false, cond, List, [], ◌∷◌, Option, Some, None}
use Rattle.std.specs.List.{AllByRecursion}
use Rattle.cv_rule.specs.declared.view.Posted.{Posted}
use Rattle.cv_rule.specs.declared.view.Role.{Role}
use Rattle.cv_rule.specs.declared.view.Role.TheVariants.{Master, Pass, Note, Spent}
use Rattle.cv_rule.specs.declared.view.Row.{Row}

-- the longer of two lists, of which one begins the other
abbrev pub longer : {A : Type 0} → List A → List A → List A
longer [] ys = ys
longer (x ∷ xs) [] = x ∷ xs
longer (x ∷ xs) (y ∷ ys) = x ∷ longer xs ys

-- versions that never fall, from low on and up to high
abbrev pub Within : ℕ → ℕ → List ℕ → Type 0
Within low high [] = Unit {0}
Within low high (n ∷ ns) = (low ≤ n) × (n ≤ high) × Within n high ns

-- ---- counts

-- n where the test holds, else none
abbrev pub if_so : Bool → ℕ → ℕ
if_so true n = n
if_so false n = 0

-- the sum of a number of each
abbrev pub total : {A : Type 0} → (A → ℕ) → List A → ℕ
total f [] = 0
total f (x ∷ xs) = f x + total f xs

-- 1 for the numbers below a bound
abbrev pub below : ℕ → ℕ → ℕ
below n bound = if_so (nat_lt n bound) 1

-- how often a number stands in a list
abbrev pub times : ℕ → List ℕ → ℕ
times n ns = total (λ (m : ℕ). if_so (m == n) 1) ns

-- how many rows have a draw
abbrev pub rows_of : ℕ → List Row → ℕ
rows_of draw hand = total (λ (r : Row). if_so (r.draw == draw) 1) hand

-- how many of a worker's rows have a draw and a floor
abbrev pub rows_like : ℕ → ℕ → ℕ → List Row → ℕ
rows_like worker draw floor hand = total (λ (r : Row). if_so (r.worker == worker) (if_so (r.draw == draw) (if_so (r.floor == floor) 1))) hand

-- how many rows have a draw that is no run of the round
abbrev pub idle_rows : ℕ → List Row → ℕ
idle_rows runs hand = total (λ (r : Row). if_so (nat_le runs r.draw) 1) hand

-- how many of them are a worker's
abbrev pub idle_rows_of : ℕ → ℕ → List Row → ℕ
idle_rows_of runs worker hand = total (λ (r : Row). if_so (r.worker == worker) (if_so (nat_le runs r.draw) 1)) hand

-- how many entries have a draw
abbrev pub posted_of : ℕ → List Posted → ℕ
posted_of draw book = total (λ (t : Posted). if_so (t.draw == draw) 1) book

-- ---- who has what

-- 1 for a pass
abbrev pub is_pass : Role → ℕ
is_pass (Pass worker) = 1
is_pass Master = 0
is_pass Note = 0
is_pass Spent = 0

-- 1 for the pass of a worker
abbrev pub is_pass_of : ℕ → Role → ℕ
is_pass_of worker (Pass w) = if_so (w == worker) 1
is_pass_of worker Master = 0
is_pass_of worker Note = 0
is_pass_of worker Spent = 0

-- how many of a worker's rows with a draw that is a run, and a floor, are in the hand of a note or the master
abbrev pub carried : ℕ → ℕ → ℕ → ℕ → Role → List Row → ℕ
carried runs worker draw floor Note hand = if_so (nat_lt draw runs) (rows_like worker draw floor hand)
carried runs worker draw floor Master hand = if_so (nat_lt draw runs) (rows_like worker draw floor hand)
carried runs worker draw floor (Pass w) hand = 0
carried runs worker draw floor Spent hand = 0

abbrev pub is_draw : ℕ → Option ℕ → ℕ
is_draw draw None = 0
is_draw draw (Some d) = if_so (d == draw) 1

-- 1 for the pass of a worker, with a floor, for which a draw is on its way
abbrev pub awaited : ℕ → ℕ → ℕ → Role → ℕ → Option ℕ → ℕ
awaited worker draw floor (Pass w) f on_its_way = if_so (w == worker) (if_so (f == floor) (is_draw draw on_its_way))
awaited worker draw floor Master f on_its_way = 0
awaited worker draw floor Note f on_its_way = 0
awaited worker draw floor Spent f on_its_way = 0

-- ---- the book list

-- the first entry with a draw
abbrev pub entry_with : ℕ → List Posted → Option Posted
entry_with draw [] = None
entry_with draw (t ∷ ts) = cond (t.draw == draw) (Some t) (entry_with draw ts)

-- a worker's last entry, after one that was found before
abbrev pub last_after : ℕ → Option Posted → List Posted → Option Posted
last_after worker found [] = found
last_after worker found (t ∷ ts) = last_after worker (cond (t.worker == worker) (Some t) found) ts

abbrev pub last_of : ℕ → List Posted → Option Posted
last_of worker book = last_after worker None book

-- 1 for an entry with a draw
abbrev pub has_draw : ℕ → Option Posted → ℕ
has_draw draw None = 0
has_draw draw (Some t) = if_so (t.draw == draw) 1

-- the newest version after an entry; 0 where there is none
abbrev pub version_after : Option Posted → ℕ
version_after None = 0
version_after (Some t) = t.version

-- all of a worker's entries are of draws below one
abbrev pub IsAbove : List Posted → ℕ → ℕ → Type 0
IsAbove book worker draw = AllByRecursion (λ (t : Posted). t.worker ≡ worker → t.draw < draw) book

-- the draws of each worker rise
abbrev pub Rises : List Posted → Type 0
Rises [] = Unit {0}
Rises (t ∷ ts) = AllByRecursion (λ (u : Posted). u.worker ≡ t.worker → t.draw < u.draw) ts × Rises ts
