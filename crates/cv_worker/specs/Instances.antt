-- What an instance has, and what its calls make of it (docs/REPAIR.md, "Instances").
use Rattle.std.specs.Prelude.{◌≡◌, ◌<◌, ℕ, Bool, [], ◌∷◌, ◌++◌, length, Option, Some, None, IsSomeAnd, slice_get}
use Rattle.cv_base.specs.declared.entries.Entry.{Entry}
use Rattle.cv_base.specs.PlanOf.{PlanOf}
use Rattle.cv_desk.specs.Openings.{SettingOf}
use Rattle.cv_desk.specs.Passes.{HasPosted, IsDone, IsOf, IsOfWorker, Sight, TicketOf, kept_of}
use Rattle.cv_histories.specs.Honest.{IsHonest}
use Rattle.cv_histories.specs.Rows.{written}
use Rattle.cv_histories.specs.World.{numbers_of}
use Rattle.cv_rule.specs.Steps.{drawn}

-- the plan that its arena was made of, the pass that is seated, and whether memory was refused in the last round that it took part in
pub record InstanceOf : Type 0 where
  pub plan : PlanOf
  pub pass : Option Sight
  pub refused : Bool

-- ---- before a run

-- the pass is of the office of this setting, holds no draw, and has loaded nothing since its last post
pub record CanDraw (s : SettingOf) (v : Sight) : Type 0 where
  pub of : IsOf s v
  pub hand : v.hand ≡ []
  pub loaded : v.loaded ≡ []

-- such a pass is seated, of an office of this plan, of which the arena is too, and of this round
pub record IsReady (plan : PlanOf) (round : ℕ) (i : InstanceOf) : Type 0 where
  pub arena : i.plan ≡ plan
  pub setting : SettingOf
  pub of_plan : setting.plan ≡ plan
  pub of_round : setting.round ≡ round
  pub can_draw : IsSomeAnd i.pass (CanDraw setting)

-- ---- after a run

-- the pass had this ticket, and its run was run and posted
pub record HasPostedRun (plan : PlanOf) (round : ℕ) (t : TicketOf) (v w : Sight) : Type 0 where
  -- the run's entry, which is honest under the versions that the pass knows
  pub entry : Entry
  pub draw : slice_get (numbers_of plan round) t.draw ≡ Some entry.run
  pub worker : IsOfWorker entry.worker v
  pub honest : IsHonest plan w.known.versions entry
  -- the pass when the run had ended: it had loaded what the run adopted, and nothing else in hand changed
  pub ran : Sight
  pub kept : kept_of ran ≡ kept_of v
  pub loaded : ran.loaded ≡ written entry.adopted
  pub posted : HasPosted t.draw ran w

-- a run was drawn, run and posted: the pass has one row more in its posts
pub record HasRun (plan : PlanOf) (round : ℕ) (v w : Sight) : Type 0 where
  pub ticket : TicketOf
  pub posted : HasPostedRun plan round ticket (drawn v ticket.draw) w
  pub posts : w.posts ≡ v.posts ++ record { draw = ticket.draw; loaded = written posted.entry.adopted } ∷ []

-- two passes that are seated, one before and one after
abbrev pub AreSeated : (Sight → Sight → Type 0) → Option Sight → Option Sight → Type 0
AreSeated R None o = ⊥
AreSeated R (Some v) None = ⊥
AreSeated R (Some v) (Some w) = R v w

-- the pass of the same worker at the same office
pub record IsSame (v w : Sight) : Type 0 where
  pub role : w.role ≡ v.role
  pub opening : w.known.opening ≡ v.known.opening

-- an instance took one run, and can take the next
pub record HasTaken (plan : PlanOf) (round : ℕ) (i j : InstanceOf) : Type 0 where
  pub ready : IsReady plan round j
  pub ran : AreSeated (HasRun plan round) i.pass j.pass

-- ---- the end of a round

abbrev pub IsOfSetting : SettingOf → InstanceOf → Type 0
IsOfSetting s i = IsSomeAnd i.pass (IsOf s)

-- all that its pass drew is posted, but for a number that was no run of the round
pub record IsPassDone (s : SettingOf) (v : Sight) : Type 0 where
  pub done : IsDone s v
  pub past : 0 < length v.hand

abbrev pub HasMetEnd : SettingOf → InstanceOf → Type 0
HasMetEnd s i = IsSomeAnd i.pass (IsPassDone s)
