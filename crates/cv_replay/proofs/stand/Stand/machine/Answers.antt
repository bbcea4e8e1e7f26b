use Rattle.std.proofs.Common.{◌∙◌, sym, ap}
use Rattle.std.specs.Prelude.{option_map}
use Rattle.cv_histories.specs.Flight.{Flight}
use Rattle.cv_replay.proofs.NextTurn.{goes_on, some_going, stands}
use Rattle.cv_replay.proofs.stand.Stand.machine.Goals as goal

pub returns : goal.returns
returns c =
    let at = c.requires.at in
    let s = c.args.self.now in
    let script = c.requires.script in
    (stands c.args.script.now s at script).state
    ∙ sym (ap (option_map (λ (f : Flight). f.state)) at.is)
    ∙ c.machine.ensures.state (goes_on c.args.script.now s at script) (some_going s.flight.plan s.flight.going at.flight at.is)
