-- What a world stands for: a plan, its history, and what goes on in each instance; and the world of
-- the definitions that this is (docs/REPAIR.md, "The world").
use Rattle.std.specs.Prelude.{ℕ, List, Option, map}
use Rattle.cv_base.specs.declared.entries.Entry.{Entry}
use Rattle.cv_base.specs.PlanOf.{PlanOf}
use Rattle.cv_exec.specs.ArenaOf.{Going}
use Rattle.cv_histories.specs.World.{World}
use Rattle.cv_exec.specs.ArenaOf.{flight_in}

pub record WorldOf : Type 0 where
  pub plan : PlanOf
  pub history : List Entry  -- the newest first
  pub drawn : ℕ  -- runs drawn in the current round
  pub goings : List (Option Going)  -- in each instance's arena

-- the world of the definitions
abbrev pub world_of : WorldOf → World
world_of w = record { history = w.history; drawn = w.drawn; flights = map (flight_in w.plan) w.goings }
