-- The office's rule over the table, and what its steps tell (docs/REPAIR.md, "The office").
use Rattle.std.specs.Prelude.{◌≡◌, ◌≤◌, ◌<◌, ◌+◌, ◌-◌, ◌^◌, ℕ, List, [], ◌∷◌, length, Some, None}
use Rattle.std.specs.List.{AllByRecursion}
use mathlib.Core.Option.{some}
use Rattle.atomic_table.specs.Seated.{TableId}
use Rattle.atomic_table.specs.Table.{Me, State, Step}
use Rattle.cv_rule.specs.Counts.{Within, below, idle_rows, posted_of, times}
use Rattle.cv_rule.specs.Laws.{IsNewVersion, IsRenewal, KnewAll, MayPost}
use Rattle.cv_rule.specs.Rule.{Ruled}
use Rattle.cv_rule.specs.Steps.{announced, booked, drawn, entered, renewed, worker_of}
use Rattle.cv_rule.specs.declared.view.Opening.{Opening}
use Rattle.cv_rule.specs.declared.view.Role.TheVariants.{Master, Pass}
use Rattle.cv_rule.specs.declared.view.Row.{Row}
use Rattle.cv_rule.specs.declared.view.View.{View}

abbrev pub no_table : TableId
no_table = record { words = 0; slots = 0; views_name = 0; atom = 0; block = 0; offset = 0; slot_names = [] }

-- the table has two words, and its views keep the rule
pub record IsOffice {M T : Type 0} (o : Opening M) (s : State T (View M T)) : Type 0 where
  pub word0 : ℕ
  pub word1 : ℕ
  pub words_are : s.words ≡ word0 ∷ word1 ∷ []
  pub small : o.runs + o.workers < 2 ^ 32
  pub ruled : Ruled o word0 word1 s.views

-- what a load at a block entry tells: the view has one more loaded version, which is the newest one found
pub record Entered {M T : Type 0} (s : Step T) (me : Me T (View M T)) (found : ℕ) (me' : Me T (View M T)) : Type 0 where
  pub slots : me'.1 ≡ me.1
  pub view : me'.0 ≡ entered me.0 (found - 1)
  pub new : IsNewVersion found me.0

-- what a draw tells: the number found is in the hand
pub record Drew {M T : Type 0} (s : Step T) (me : Me T (View M T)) (found : ℕ) (me' : Me T (View M T)) : Type 0 where
  pub slots : me'.1 ≡ me.1
  pub view : me'.0 ≡ drawn me.0 found
  pub few : found < 2 ^ 32

-- what a load after a join tells: the lists grew; the master's stay, and it learns what it may post
pub record Renewed {M T : Type 0} (s : Step T) (me : Me T (View M T)) (found : ℕ) (me' : Me T (View M T)) : Type 0 where
  pub slots : me'.1 ≡ me.1
  pub view : me'.0 ≡ renewed me.0
  pub opening : Opening M
  pub renewal : IsRenewal opening me.0 (renewed me.0)
  pub master : me.0.role ≡ Master → KnewAll me.0 (renewed me.0)
  pub row : (r : Row) → me.0.role ≡ Master → me.0.hand ≡ r ∷ [] → r.draw < opening.runs → MayPost opening found me.0 r

-- so after a join and a load: one opening, and lists that both begin the longer ones
abbrev pub IsToldBoth : {M T : Type 0} → View M T → Type 0
IsToldBoth {M} v = (o : Opening M) × IsRenewal o v (renewed v)

-- what the load of a post without a new version tells
pub record Booked {M T : Type 0} (s : Step T) (me : Me T (View M T)) (found : ℕ) (me' : Me T (View M T)) : Type 0 where
  pub slots : me'.1 ≡ me.1
  pub view : me'.0 ≡ booked me.0 (found - 1)
  pub long : found ≡ length me.0.known.versions

-- what the add of a post with a new version tells: the list has the table that was said
pub record Announced {M T : Type 0} (s : Step T) (me : Me T (View M T)) (found : ℕ) (me' : Me T (View M T)) : Type 0 where
  pub slots : me'.1 ≡ me.1
  pub table : T
  pub said : s.said ≡ some table
  pub view : me'.0 ≡ announced me.0 table
  pub found_is : found ≡ s.first

-- a row of a run of the round, as the seat knows it
abbrev pub IsRun : {M T : Type 0} → View M T → Row → Type 0
IsRun {M} v r = (o : Opening M) × (v.known.opening ≡ Some o) × (r.draw < o.runs)

-- a pass, and what only its own steps change
pub record IsPass {M T : Type 0} (v : View M T) : Type 0 where
  pub role : v.role ≡ Pass (worker_of v.role)
  pub loaded : Within v.floor v.reach v.loaded

-- it can draw
abbrev pub IsWaiting : {M T : Type 0} → View M T → Type 0
IsWaiting v = (v.hand ≡ []) × (v.on_its_way ≡ None)

-- what the table's first state needs: the history's versions, each worker once, and few runs
pub record IsStart {M T : Type 0} (o : Opening M) (versions : List T) (workers : List ℕ) : Type 0 where
  pub newest : length versions ≡ o.newest + 1
  pub most : length versions ≤ 1025
  pub each_once : (worker : ℕ) → times worker workers ≡ below worker o.workers
  pub all : length workers ≡ o.workers
  pub small : o.runs + o.workers < 2 ^ 32

-- the master's seat, with nothing in hand
pub record IsMaster {M T : Type 0} (v : View M T) : Type 0 where
  pub role : v.role ≡ Master
  pub hand : v.hand ≡ []

-- a pass with the row of a run in hand
abbrev pub HasRun : {M T : Type 0} → View M T → Type 0
HasRun v = (r : Row) × (v.hand ≡ r ∷ []) × IsRun v r

-- the master with these rows in hand, of which the only one is a run's
pub record IsHolding {M T : Type 0} (hand : List Row) (v : View M T) : Type 0 where
  pub role : v.role ≡ Master
  pub hand_is : v.hand ≡ hand
  pub run : HasRun v

-- the row of a post may be posted, under the opening that the pass knows too
abbrev pub IsPostable : {M T : Type 0} → View M T → List Row → ℕ → Type 0
IsPostable {M} v hand found = (r : Row) → hand ≡ r ∷ [] → (o : Opening M) × (v.beside.opening ≡ Some o) × MayPost o found v r

-- no row in hand is a run's, as the seat knows it
abbrev pub IsIdle : {M T : Type 0} → View M T → Type 0
IsIdle {M} v = (o : Opening M) × (v.known.opening ≡ Some o) × AllByRecursion (λ (r : Row). o.runs ≤ r.draw) v.hand

-- the master with all workers' passes joined, of which one met the end of the round
pub record IsAlone {M T : Type 0} (o : Opening M) (v : View M T) : Type 0 where
  pub role : v.role ≡ Master
  pub opening : v.known.opening ≡ Some o
  pub absent : length v.absent ≡ o.workers
  pub past : 0 < idle_rows o.runs v.hand

-- the book list has each run of the round once, and no other
abbrev pub HasRunsOnce : {M T : Type 0} → Opening M → View M T → Type 0
HasRunsOnce o v = (draw : ℕ) → posted_of draw v.known.posted ≡ below draw o.runs

-- the row that the master holds is of the pass's worker
abbrev pub IsOwnRow : {M T : Type 0} → View M T → View M T → Type 0
IsOwnRow m v = (r : Row) × (m.hand ≡ r ∷ []) × IsRun m r × (v.role ≡ Pass r.worker)
