-- What stays true of the book and the master's seat while the lock is free (docs/REPAIR.md, "The
-- office").
use Rattle.std.specs.Prelude.{◌≡◌, ◌<◌, ◌+◌, ◌-◌, ℕ, List, [], ◌∷◌, ◌++◌, length, reverse, Option, Some, None, slice_get}
use Rattle.std.specs.List.{range_with_len}
use Rattle.cv_base.specs.declared.entries.Entry.{Entry}
use Rattle.cv_desk.specs.Openings.{IsSetting, IsUpTo, SettingOf, opening_of, versions_of}
use Rattle.cv_desk.specs.declared.making.Making.{Making}
use Rattle.cv_histories.specs.Versions.{newest}
use Rattle.cv_histories.specs.World.{numbers_of}
use Rattle.cv_manager.specs.ManagerOf.{ManagerOf, ledger_in}
use Rattle.cv_office.specs.Told.{IsMaster}
use Rattle.cv_rule.specs.Steps.{entries_of, known_at_start}
use Rattle.cv_rule.specs.declared.view.Posted.{Posted}
use Rattle.cv_rule.specs.declared.view.Role.TheVariants.{Master}
use Rattle.cv_rule.specs.declared.view.View.{View}
use Rattle.cv_runs.specs.PatchedRun.{Table}

-- the entry of a draw of the round, with the newest version after it
pub record IsEntryOf (s : SettingOf) (past : List Entry) (e : Entry) (t : Posted) : Type 0 where
  pub worker : e.worker ≡ t.worker
  pub run : slice_get (numbers_of s.plan s.round) t.draw ≡ Some e.run
  pub version : t.version ≡ newest s.plan (e ∷ past)

-- a history that goes on, behind what there was at the making, with the entries of these draws; both have their newest first
abbrev pub GoesOn : SettingOf → List Entry → List Posted → Type 0
GoesOn s past [] = past ≡ s.past
GoesOn s [] (t ∷ ts) = ⊥
GoesOn s (e ∷ past) (t ∷ ts) = IsEntryOf s past e t × GoesOn s past ts

-- a book, and a view of the master that knows all of it
pub record IsDesk (book : ManagerOf) (v : View Making Table) : Type 0 where
  pub setting : SettingOf
  pub is_setting : IsSetting setting
  pub opening : v.known.opening ≡ Some (opening_of setting)
  pub plan : book.plan ≡ setting.plan
  pub empty : IsMaster v
  pub present : v.absent ≡ []
  pub versions : v.known.versions ≡ (ledger_in book).versions
  pub entries : GoesOn setting book.past (reverse v.known.posted)

-- ---- the start

-- the master, with the workers from one on without a pass
pub record IsSeating (s : SettingOf) (worker : ℕ) (v : View Making Table) : Type 0 where
  pub role : v.role ≡ Master
  pub hand : v.hand ≡ []
  pub known : v.known ≡ known_at_start (opening_of s) (versions_of s)
  pub absent : v.absent ≡ range_with_len worker (s.plan.workers - worker)

-- ---- a post

-- the versions after an entry, which added none or this one
abbrev pub AreAfter : Option ℕ → List Table → List Table → Type 0
AreAfter None before now = now ≡ before
AreAfter (Some n) before now = (n ≡ length before) × (n < 1025) × (table : Table) × (now ≡ before ++ table ∷ [])

-- the master's row went to its book list, with the newest of these versions
pub record IsNoted (versions : List Table) (v w : View Making Table) : Type 0 where
  pub role : w.role ≡ Master
  pub hand : w.hand ≡ []
  pub absent : w.absent ≡ v.absent
  pub opening : w.known.opening ≡ v.known.opening
  pub versions_are : w.known.versions ≡ versions
  pub posted : w.known.posted ≡ v.known.posted ++ entries_of (length versions - 1) v.hand

-- ---- the end

-- a book with the entries of the round's runs behind those at the making, and no others
pub record IsClosed (s : SettingOf) (book : ManagerOf) : Type 0 where
  pub plan : book.plan ≡ s.plan
  pub more : List Entry
  pub behind : book.past ≡ more ++ s.past
  pub up_to : IsUpTo s.plan (s.round + 1) book.past
