-- What an arena has seen of the run that is going on. A condition of private parts.
use Rattle.std.specs.Prelude.{◌≡◌, IsSome}
use Rattle.cv_blocks.specs.TextMap.{text_only}
use Rattle.cv_exec.specs.ArenaOf.{InFlightOf, seen_so_far}
use Rattle.cv_observe.specs.StandsFor.{SummaryOf, StandsFor}

pub record IsArena (flight : InFlightOf) (summary : SummaryOf) : Type 0 where
  pub text : summary.text ≡ text_only flight.plan.image
  pub seen : IsSome flight.going → StandsFor summary (seen_so_far flight.plan flight.going)
