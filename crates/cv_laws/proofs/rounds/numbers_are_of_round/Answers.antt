use Rattle.cv_laws.proofs.RoundNumbers.{numbers_are}
use Rattle.cv_laws.proofs.rounds.numbers_are_of_round.Goals as goal

-- src/rounds.rt
pub returns : goal.returns
returns c = numbers_are
