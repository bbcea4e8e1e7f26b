-- What a pass needs to take a run of a plan, and what a step of the example leaves of it
-- (docs/REPAIR.md, "The office").
use Rattle.std.specs.Prelude.{◌≡◌, ◌<◌, ◌≤◌, true, [], length, Option, Some}
use Rattle.std.specs.List.{AllByRecursion}
use Rattle.cv_base.specs.PlanOf.{PlanOf}
use Rattle.cv_desk.specs.Openings.{SettingOf}
use Rattle.cv_desk.specs.Passes.{HasTicket, IsDone, IsOf, IsOutcome, Sight, TicketOf}
use Rattle.cv_exec.specs.ArenaOf.{ArenaOf, Going}
use Rattle.cv_exec.specs.LiveRun.{HaveTables, Span, rows_of}
use Rattle.cv_exec.specs.RecordOf.{RecordOf}
use Rattle.cv_histories.specs.Rows.{written}
use Rattle.cv_histories.specs.Runs.{run_at}
use Rattle.cv_histories.specs.Seen.{is_observed, observed_of}
use Rattle.cv_observe.specs.StandsFor.{StandsFor}
use Rattle.cv_rule.specs.Steps.{worker_of}

-- the pass is of the office of this setting, holds no draw, and has loaded nothing since its last post
pub record CanDraw (s : SettingOf) (v : Sight) : Type 0 where
  pub of : IsOf s v
  pub hand : v.hand ≡ []
  pub loaded : v.loaded ≡ []

-- it is such a pass, of an office of this plan
pub record IsReady (plan : PlanOf) (v : Sight) : Type 0 where
  pub setting : SettingOf
  pub of_plan : setting.plan ≡ plan
  pub can_draw : CanDraw setting v

-- two passes of one office
abbrev pub IsSameOffice : Sight → Sight → Type 0
IsSameOffice v w = w.known.opening ≡ v.known.opening

-- the pass drew this run of this plan
pub record HasDrawn (plan : PlanOf) (v : Sight) (t : TicketOf) : Type 0 where
  pub ticket : HasTicket v t
  pub of_plan : ticket.setting.plan ≡ plan

-- and has loaded nothing for it
pub record MayRun (plan : PlanOf) (v : Sight) (t : TicketOf) : Type 0 where
  pub drawn : HasDrawn plan v t
  pub loaded : v.loaded ≡ []

-- the run of the ticket is in flight, and has adopted what the pass loaded for it
pub record IsFlying (plan : PlanOf) (v : Sight) (t : TicketOf) (flight : Option Going) : Type 0 where
  pub drawn : HasDrawn plan v t
  pub going : Going
  pub is : flight ≡ Some going
  pub run : going.run ≡ t.run
  pub worker : going.worker ≡ worker_of v.role
  pub loaded : written (rows_of going.adopted) ≡ v.loaded
  pub tables : HaveTables v.known.versions going.adopted
  pub reached : AllByRecursion (λ (x : Span). x.version ≤ v.reach) going.adopted

-- the record is of the run of the ticket, and the arena that made it has seen what is learned of it
pub record MayPost (v : Sight) (t : TicketOf) (r : RecordOf) (a : ArenaOf) : Type 0 where
  pub ticket : HasTicket v t
  pub outcome : IsOutcome v t r
  pub of_plan : r.plan ≡ a.plan
  pub seen : is_observed r.entry ≡ true → StandsFor a.summary (observed_of r.plan (run_at r.plan r.entry.run))

-- all that the pass drew is posted, and its last draw was no run of the round
pub record HasMetEnd (s : SettingOf) (v : Sight) : Type 0 where
  pub done : IsDone s v
  pub past : 0 < length v.hand

-- the two passes of an office with two workers, which both can draw
pub record AreTwo (s : SettingOf) (v w : Sight) : Type 0 where
  pub workers : s.plan.workers ≡ 2
  pub first : CanDraw s v
  pub second : CanDraw s w

-- the first of them has met the end, and the second one has posted what it drew
pub record AreEnded (s : SettingOf) (v w : Sight) : Type 0 where
  pub workers : s.plan.workers ≡ 2
  pub first : HasMetEnd s v
  pub second : CanDraw s w
