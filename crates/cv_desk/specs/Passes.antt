-- What a pass has in hand, what it may post, and what a call makes of it (docs/REPAIR.md, "The
-- office").
use Rattle.std.specs.Prelude.{◌≡◌, ◌<◌, ◌≤◌, ◌+◌, ℕ, List, true, nat_lt, [], ◌∷◌, ◌++◌, length, Option, Some, None, slice_get}
use Rattle.std.specs.List.{AllByRecursion, list_any, range_with_len}
use mathlib.Core.List.{IsPrefix}
use Rattle.cv_desk.specs.Openings.{SettingOf, opening_of, versions_of}
use Rattle.cv_desk.specs.declared.making.Making.{Making}
use Rattle.cv_exec.specs.LiveRun.{HaveTables}
use Rattle.cv_exec.specs.RecordOf.{RecordOf}
use Rattle.cv_histories.specs.Rows.{written}
use Rattle.cv_histories.specs.Versions.{newest}
use Rattle.cv_histories.specs.World.{numbers_of}
use Rattle.cv_office.specs.Told.{IsPass, IsWaiting}
use Rattle.cv_rule.specs.Counts.{entry_with}
use Rattle.cv_rule.specs.Steps.{drawn, worker_of}
use Rattle.cv_rule.specs.declared.view.Opening.{Opening}
use Rattle.cv_rule.specs.declared.view.Post.{Post}
use Rattle.cv_rule.specs.declared.view.Posted.{Posted}
use Rattle.cv_rule.specs.declared.view.Role.{Role}
use Rattle.cv_rule.specs.declared.view.Role.TheVariants.{Pass}
use Rattle.cv_rule.specs.declared.view.Row.{Row}
use Rattle.cv_rule.specs.declared.view.View.{View}
use Rattle.cv_runs.specs.PatchedRun.{Table}

-- what a seat of the office knows
abbrev pub Sight : Type 0
Sight = View Making Table

-- the seat's office was made of this
abbrev pub IsOf : SettingOf → Sight → Type 0
IsOf s v = v.known.opening ≡ Some (opening_of s)

-- the seat is the pass of a worker
abbrev pub IsOfWorker : ℕ → Sight → Type 0
IsOfWorker worker v = v.role ≡ Pass worker

-- a run that was drawn: its place in its round, and its number in the plan
pub record TicketOf : Type 0 where
  pub draw : ℕ
  pub run : ℕ

-- the pass of a worker of the plan, of which these are the first number and the count of the round's runs
pub record IsSeated (worker first count : ℕ) (v : Sight) : Type 0 where
  pub pass : IsPass v
  pub role : IsOfWorker worker v
  pub settled : v.on_its_way ≡ None
  pub setting : SettingOf
  pub of : IsOf setting v
  pub within : worker < setting.plan.workers
  pub numbers : numbers_of setting.plan setting.round ≡ range_with_len first count
  pub few : first + count ≤ 1024

-- the pass drew this run, and has not posted it
pub record HasTicket (v : Sight) (t : TicketOf) : Type 0 where
  pub hand : v.hand ≡ record { worker = worker_of v.role; draw = t.draw; floor = v.floor } ∷ []
  pub setting : SettingOf
  pub of : IsOf setting v
  pub run : slice_get (numbers_of setting.plan setting.round) t.draw ≡ Some t.run

-- a record of the office's plan, of this run and of this pass's worker; its adopted versions are those that the pass loaded since its last post, and its tables those that the pass knows of them
pub record IsOutcome (v : Sight) (t : TicketOf) (r : RecordOf) : Type 0 where
  pub setting : SettingOf
  pub of : IsOf setting v
  pub plan : r.plan ≡ setting.plan
  pub run : r.entry.run ≡ t.run
  pub worker : r.entry.worker ≡ worker_of v.role
  pub loaded : written r.entry.adopted ≡ v.loaded
  pub tables : HaveTables v.known.versions r.adopted

-- ---- what a call makes of it

-- what it knows grew, and nothing else changed
pub record HasGrown (v w : Sight) : Type 0 where
  pub role : w.role ≡ v.role
  pub opening : w.known.opening ≡ v.known.opening
  pub versions : IsPrefix v.known.versions w.known.versions
  pub posted : IsPrefix v.known.posted w.known.posted
  pub reach : v.reach ≤ w.reach
  pub hand : w.hand ≡ v.hand
  pub loaded : w.loaded ≡ v.loaded
  pub floor : w.floor ≡ v.floor
  pub on_its_way : w.on_its_way ≡ v.on_its_way
  pub posts : w.posts ≡ v.posts

-- its draw was posted, with the versions that it had loaded, and it is where its worker's next run begins: the newest version after that entry
pub record HasPosted (draw : ℕ) (v w : Sight) : Type 0 where
  pub entry : Posted
  pub found : entry_with draw w.known.posted ≡ Some entry
  pub by : entry.worker ≡ worker_of v.role
  pub floor : w.floor ≡ entry.version
  pub role : w.role ≡ v.role
  pub opening : w.known.opening ≡ v.known.opening
  pub versions : IsPrefix v.known.versions w.known.versions
  pub posted : IsPrefix v.known.posted w.known.posted
  pub hand : w.hand ≡ []
  pub loaded : w.loaded ≡ []
  pub on_its_way : w.on_its_way ≡ None
  pub posts : w.posts ≡ v.posts ++ record { draw = draw; loaded = v.loaded } ∷ []

-- a number was drawn that is no run of the round
pub record IsPastRuns (v w : Sight) : Type 0 where
  pub draw : ℕ
  pub drawn_is : w ≡ drawn v draw
  pub setting : SettingOf
  pub of : IsOf setting v
  pub past : length (numbers_of setting.plan setting.round) ≤ draw

-- what entering and fetching keep of a pass: who it is, what it has in hand and has posted
pub record Kept : Type 0 where
  pub role : Role
  pub opening : Option (Opening Making)
  pub hand : List Row
  pub floor : ℕ
  pub on_its_way : Option ℕ
  pub posts : List Post

abbrev pub kept_of : Sight → Kept
kept_of v = record { role = v.role; opening = v.known.opening; hand = v.hand; floor = v.floor; on_its_way = v.on_its_way; posts = v.posts }

-- ---- the passes of an office

-- the pass of a worker, as it is made: it knows the versions at the making, and can enter none below the newest of them
pub record IsNew (s : SettingOf) (worker : ℕ) (v : Sight) : Type 0 where
  pub of : IsOf s v
  pub role : IsOfWorker worker v
  pub waiting : IsWaiting v
  pub loaded : v.loaded ≡ []
  pub posts : v.posts ≡ []
  pub versions : v.known.versions ≡ versions_of s
  pub posted : v.known.posted ≡ []
  pub floor : v.floor ≡ newest s.plan s.past
  pub reach : v.reach ≡ newest s.plan s.past

-- one pass for each worker from a number on, in order
abbrev pub AreNew : SettingOf → ℕ → List Sight → Type 0
AreNew s worker [] = Unit {0}
AreNew s worker (v ∷ vs) = IsNew s worker v × AreNew s (worker + 1) vs

-- every run that it drew is posted
pub record IsDone (s : SettingOf) (v : Sight) : Type 0 where
  pub of : IsOf s v
  pub idle : AllByRecursion (λ (r : Row). length (numbers_of s.plan s.round) ≤ r.draw) v.hand

-- the passes of all workers, of which one has met the end of the round
pub record AreDone (s : SettingOf) (passes : List Sight) : Type 0 where
  pub all : length passes ≡ s.plan.workers
  pub each : AllByRecursion (IsDone s) passes
  pub past : list_any (λ (v : Sight). nat_lt 0 (length v.hand)) passes ≡ true
