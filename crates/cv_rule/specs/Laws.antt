-- The laws of the office's rule: each kind of step keeps it, and what it tells
-- (docs/REPAIR.md, "The office").
use Rattle.std.specs.Prelude.{◌≡◌, ◌≢◌, ◌≤◌, ◌<◌, ◌+◌, ◌-◌, ℕ, List, [], ◌∷◌, ◌++◌, length, Some, None, slice_set}
use Rattle.std.specs.List.{AllByRecursion}
use mathlib.Core.List.{IsPrefix}
use Rattle.cv_rule.specs.Counts.{IsAbove, Within, below, entry_with, idle_rows, longer, posted_of, times}
use Rattle.cv_rule.specs.Rule.{Has, IsFloor, Ruled}
use Rattle.cv_rule.specs.Steps.{announced, booked, drawn, entered, giving_back, joined, master_at_start, merged, new_pass, note_of, renewed, seating, sending, spent}
use Rattle.cv_rule.specs.declared.view.Opening.{Opening}
use Rattle.cv_rule.specs.declared.view.Posted.{Posted}
use Rattle.cv_rule.specs.declared.view.Role.TheVariants.{Master, Pass, Note, Spent}
use Rattle.cv_rule.specs.declared.view.Row.{Row}
use Rattle.cv_rule.specs.declared.view.View.{View}

-- ---- the start

-- the office's first state, with the versions of the history at the making and all workers without a pass
abbrev pub StartIsRuled : Type 0 → Type 0 → Type 0
StartIsRuled M T =
    (o : Opening M) (versions : List T) (absent : List ℕ)
    → length versions ≡ o.newest + 1
    → length versions ≤ 1025
    → ((worker : ℕ) → times worker absent ≡ below worker o.workers)
    → length absent ≡ o.workers
    → Ruled o (length versions) 0 (master_at_start o versions absent ∷ [])

-- ---- make a pass's seat

abbrev pub SeatKeeps : Type 0 → Type 0 → Type 0
SeatKeeps M T =
    (o : Opening M) (word0 word1 : ℕ) (views : List (View M T)) (id : ℕ) (m : View M T) → Ruled o word0 word1 views → Has views id m
    → m.role ≡ Master
    → m.hand ≡ []
    → 0 < length m.absent
    → Ruled o word0 word1 (slice_set views id (seating m) ++ new_pass m ∷ [])

-- ---- load word 0

-- what a load in `enter` tells: the version is not below the pass's last one nor its floor, and the pass's list was no longer
pub record IsNewVersion {M T : Type 0} (word0 : ℕ) (v : View M T) : Type 0 where
  pub positive : 0 < word0
  pub most : word0 ≤ 1025
  pub rises : v.reach ≤ word0 - 1
  pub above : v.floor ≤ word0 - 1
  pub long : length v.known.versions ≤ word0

abbrev pub EnterKeeps : Type 0 → Type 0 → Type 0
EnterKeeps M T =
    (o : Opening M) (word0 word1 : ℕ) (views : List (View M T)) (id worker : ℕ) (v : View M T) → Ruled o word0 word1 views → Has views id v
    → v.role ≡ Pass worker
    → Ruled o word0 word1 (slice_set views id (entered v (word0 - 1))) × IsNewVersion word0 v

-- what a load after a join tells: one opening, and lists that both begin the longer ones
pub record IsRenewal {M T : Type 0} (o : Opening M) (v w : View M T) : Type 0 where
  pub opening : v.known.opening ≡ Some o
  pub beside : v.beside.opening ≡ Some o
  pub kept : w.known.opening ≡ v.known.opening
  pub versions : IsPrefix v.known.versions w.known.versions
  pub versions_beside : IsPrefix v.beside.versions w.known.versions
  pub posted : IsPrefix v.known.posted w.known.posted
  pub posted_beside : IsPrefix v.beside.posted w.known.posted

-- and the master's tells that it knew all already: its lists stay, and have each version that the joined seat has loaded
pub record KnewAll {M T : Type 0} (v w : View M T) : Type 0 where
  pub known : w.known ≡ v.known
  pub reach : v.reach < length v.known.versions

abbrev pub RenewKeeps : Type 0 → Type 0 → Type 0
RenewKeeps M T =
    (o : Opening M) (word0 word1 : ℕ) (views : List (View M T)) (id : ℕ) (v : View M T) → Ruled o word0 word1 views → Has views id v
    → v.role ≢ Spent
    → Ruled o word0 word1 (slice_set views id (renewed v)) × IsRenewal o v (renewed v) × (v.role ≡ Master → KnewAll v (renewed v))

-- and what it leaves as it was: the role and the hand; the lists become the longer ones, and loaded versions stay within floor and reach
pub record HasStayed {M T : Type 0} (v w : View M T) : Type 0 where
  pub role : w.role ≡ v.role
  pub hand : w.hand ≡ v.hand
  pub known : w.known ≡ merged v.known v.beside
  pub within : Within v.floor v.reach v.loaded → Within w.floor w.reach w.loaded

abbrev pub RenewedStays : Type 0 → Type 0 → Type 0
RenewedStays M T = (v : View M T) → HasStayed v (renewed v)

-- a list begins the longer of it and another
abbrev pub LongerBegins : Type 0 → Type 0
LongerBegins A = (xs ys : List A) → IsPrefix xs (longer xs ys)

-- loaded versions are within each higher bound, and with that bound as one more version
abbrev pub WithinGrows : Type 0
WithinGrows =
    (low high more : ℕ) (loaded : List ℕ) → high ≤ more → Within low high loaded
    → Within low more loaded × (low ≤ more → Within low more (loaded ++ more ∷ []))

-- ---- a post

-- in a post without a new version the master's row goes to its book list
abbrev pub BookKeeps : Type 0 → Type 0 → Type 0
BookKeeps M T =
    (o : Opening M) (word0 word1 : ℕ) (views : List (View M T)) (id : ℕ) (m : View M T) (r : Row) → Ruled o word0 word1 views → Has views id m
    → m.role ≡ Master
    → m.hand ≡ r ∷ []
    → r.draw < o.runs
    → Ruled o word0 word1 (slice_set views id (booked m (word0 - 1)))

-- 1 is added to word 0: in a post with a new version
abbrev pub AnnounceKeeps : Type 0 → Type 0 → Type 0
AnnounceKeeps M T =
    (o : Opening M) (word0 word1 : ℕ) (views : List (View M T)) (id : ℕ) (m : View M T) (r : Row) (table : T) → Ruled o word0 word1 views → Has views id m
    → m.role ≡ Master
    → m.hand ≡ r ∷ []
    → r.draw < o.runs
    → word0 < 1025
    → Ruled o (word0 + 1) word1 (slice_set views id (announced m table))

-- ---- add 1 to word 1

abbrev pub DrawKeeps : Type 0 → Type 0 → Type 0
DrawKeeps M T =
    (o : Opening M) (word0 word1 : ℕ) (views : List (View M T)) (id worker : ℕ) (v : View M T) → Ruled o word0 word1 views → Has views id v
    → v.role ≡ Pass worker
    → v.hand ≡ []
    → v.on_its_way ≡ None
    → Ruled o word0 (word1 + 1) (slice_set views id (drawn v word1))

-- word 1 never wraps
abbrev pub DrawsAreFew : Type 0 → Type 0 → Type 0
DrawsAreFew M T = (o : Opening M) (word0 word1 : ℕ) (views : List (View M T)) → Ruled o word0 word1 views → word1 ≤ o.runs + o.workers

-- ---- split a note

abbrev pub NoteKeeps : Type 0 → Type 0 → Type 0
NoteKeeps M T =
    (o : Opening M) (word0 word1 : ℕ) (views : List (View M T)) (id : ℕ) (v : View M T) → Ruled o word0 word1 views → Has views id v
    → v.role ≢ Spent
    → Ruled o word0 word1 (slice_set views id v ++ note_of v [] ∷ [])

-- the note takes the pass's row
abbrev pub SendKeeps : Type 0 → Type 0 → Type 0
SendKeeps M T =
    (o : Opening M) (word0 word1 : ℕ) (views : List (View M T)) (id worker : ℕ) (v : View M T) (r : Row) → Ruled o word0 word1 views → Has views id v
    → v.role ≡ Pass worker
    → v.hand ≡ r ∷ []
    → r.draw < o.runs
    → Ruled o word0 word1 (slice_set views id (sending v) ++ note_of v v.hand ∷ [])

-- where the book refused, the note takes the master's row
abbrev pub GiveBackKeeps : Type 0 → Type 0 → Type 0
GiveBackKeeps M T =
    (o : Opening M) (word0 word1 : ℕ) (views : List (View M T)) (id : ℕ) (m : View M T) → Ruled o word0 word1 views → Has views id m
    → m.role ≡ Master
    → AllByRecursion (λ (r : Row). r.draw < o.runs) m.hand
    → Ruled o word0 word1 (slice_set views id (giving_back m) ++ note_of m m.hand ∷ [])

-- ---- join

-- the views once one seat was joined into another
abbrev pub after_join : {M T : Type 0} → List (View M T) → ℕ → ℕ → View M T → View M T → List (View M T)
after_join views id other v w = slice_set (slice_set views id (joined v w)) other spent

-- the master takes a note
abbrev pub TakeKeeps : Type 0 → Type 0 → Type 0
TakeKeeps M T =
    (o : Opening M) (word0 word1 : ℕ) (views : List (View M T)) (id other : ℕ) (m w : View M T) → Ruled o word0 word1 views → Has views id m
    → other ≢ id
    → Has (slice_set views id (joined m w)) other w
    → m.role ≡ Master
    → w.role ≡ Note
    → Ruled o word0 word1 (after_join views id other m w)

-- a pass takes a note without a row
abbrev pub NewsKeeps : Type 0 → Type 0 → Type 0
NewsKeeps M T =
    (o : Opening M) (word0 word1 : ℕ) (views : List (View M T)) (id other worker : ℕ) (v w : View M T) → Ruled o word0 word1 views → Has views id v
    → other ≢ id
    → Has (slice_set views id (joined v w)) other w
    → v.role ≡ Pass worker
    → w.role ≡ Note
    → w.hand ≡ []
    → Ruled o word0 word1 (after_join views id other v w)

-- a pass takes its own row back
abbrev pub TakeBackKeeps : Type 0 → Type 0 → Type 0
TakeBackKeeps M T =
    (o : Opening M) (word0 word1 : ℕ) (views : List (View M T)) (id other : ℕ) (v w : View M T) (r : Row) → Ruled o word0 word1 views → Has views id v
    → other ≢ id
    → Has (slice_set views id (joined v w)) other w
    → v.role ≡ Pass r.worker
    → w.role ≡ Note
    → w.hand ≡ r ∷ []
    → Ruled o word0 word1 (after_join views id other v w)

-- the master takes a pass whose draws are all posted
abbrev pub EndKeeps : Type 0 → Type 0 → Type 0
EndKeeps M T =
    (o : Opening M) (word0 word1 : ℕ) (views : List (View M T)) (id other worker : ℕ) (m w : View M T) → Ruled o word0 word1 views → Has views id m
    → other ≢ id
    → Has (slice_set views id (joined m w)) other w
    → m.role ≡ Master
    → w.role ≡ Pass worker
    → w.on_its_way ≡ None
    → AllByRecursion (λ (r : Row). o.runs ≤ r.draw) w.hand
    → Ruled o word0 word1 (after_join views id other m w)

-- ---- close

-- a row in a hand that is no run of the round tells that more was drawn than the round has runs
abbrev pub PastRuns : Type 0 → Type 0 → Type 0
PastRuns M T =
    (o : Opening M) (word0 word1 : ℕ) (views : List (View M T)) (id : ℕ) (v : View M T) → Ruled o word0 word1 views → Has views id v
    → 0 < idle_rows o.runs v.hand
    → o.runs < word1

-- when every worker is without a pass and some draw was no run, the book list has each run of the round once, and no other
abbrev pub CloseHasRuns : Type 0 → Type 0 → Type 0
CloseHasRuns M T =
    (o : Opening M) (word0 word1 : ℕ) (views : List (View M T)) (id : ℕ) (m : View M T) → Ruled o word0 word1 views → Has views id m
    → m.role ≡ Master
    → length m.absent ≡ o.workers
    → o.runs < word1
    → (draw : ℕ) → posted_of draw m.known.posted ≡ below draw o.runs

-- ---- what a post needs

-- a master with a run's row may post it
pub record MayPost {M T : Type 0} (o : Opening M) (word0 : ℕ) (m : View M T) (r : Row) : Type 0 where
  pub opening : m.known.opening ≡ Some o
  -- the master's list has all versions
  pub versions : word0 ≡ length m.known.versions
  pub reach : m.reach < length m.known.versions
  -- the row's worker is the plan's, and no entry has its run
  pub worker : r.worker < o.workers
  pub fresh : posted_of r.draw m.known.posted ≡ 0
  -- the runs of one worker rise
  pub rises : IsAbove m.known.posted r.worker r.draw
  -- the row's floor is not below the newest version at the making, nor below that of the worker's last entry
  pub floor : IsFloor o m.known.posted r.worker r.floor

abbrev pub RowMayBePosted : Type 0 → Type 0 → Type 0
RowMayBePosted M T =
    (o : Opening M) (word0 word1 : ℕ) (views : List (View M T)) (id : ℕ) (m : View M T) (r : Row) → Ruled o word0 word1 views → Has views id m
    → m.role ≡ Master
    → m.hand ≡ r ∷ []
    → r.draw < o.runs
    → MayPost o word0 m r

-- one version of the run: at least the newest one at the making and after the worker's last entry, and at most the newest now
abbrev pub IsWithinFloors : {M T : Type 0} → Opening M → View M T → Row → ℕ → Type 0
IsWithinFloors o m r version = IsFloor o m.known.posted r.worker version × (version < length m.known.versions)

-- so each version that the pass loaded for the run is within the floors
abbrev pub LoadedMayBePosted : Type 0 → Type 0 → Type 0
LoadedMayBePosted M T =
    (o : Opening M) (word0 : ℕ) (m v : View M T) (r : Row) → MayPost o word0 m r
    → Within v.floor v.reach v.loaded
    → v.floor ≡ r.floor
    → v.reach ≤ m.reach
    → AllByRecursion (IsWithinFloors o m r) v.loaded

-- ---- after a post

-- the draw that was on its way is settled: it is in the book list, and in the posts with the versions that were loaded for it, and the floor is the version after its entry
pub record IsSettled {M T : Type 0} (v : View M T) (draw : ℕ) (t : Posted) (w : View M T) : Type 0 where
  pub found : entry_with draw w.known.posted ≡ Some t
  pub role : w.role ≡ v.role
  pub floor : w.floor ≡ t.version
  pub loaded : w.loaded ≡ []
  pub on_its_way : w.on_its_way ≡ None
  pub hand : w.hand ≡ v.hand ++ []
  pub posts : w.posts ≡ v.posts ++ record { draw = draw; loaded = v.loaded } ∷ []

-- once the master's list has the entry of the draw on its way, a note and a load settle it
abbrev pub PostSettles : Type 0 → Type 0 → Type 0
PostSettles M T =
    (v m : View M T) (draw : ℕ) (t : Posted)
    → IsPrefix v.known.posted m.known.posted
    → v.on_its_way ≡ Some draw
    → entry_with draw m.known.posted ≡ Some t
    → IsSettled v draw t (renewed (joined v (note_of m [])))

-- an entry that was just added is found by its draw, which no other entry has
abbrev pub BookedIsFound : Type 0
BookedIsFound =
    (book : List Posted) (t : Posted) → posted_of t.draw book ≡ 0
    → entry_with t.draw (book ++ t ∷ []) ≡ Some t
