-- What a pass needs to run the run of its ticket.
use Rattle.std.specs.Prelude.{◌≡◌, ℕ, []}
use Rattle.cv_base.specs.PlanOf.{PlanOf}
use Rattle.cv_desk.specs.Passes.{HasTicket, Sight, TicketOf}

-- the pass drew this run of this round of the plan, and has loaded nothing for it
pub record MayRun (plan : PlanOf) (round : ℕ) (v : Sight) (t : TicketOf) : Type 0 where
  pub ticket : HasTicket v t
  pub of_plan : ticket.setting.plan ≡ plan
  pub of_round : ticket.setting.round ≡ round
  pub loaded : v.loaded ≡ []
