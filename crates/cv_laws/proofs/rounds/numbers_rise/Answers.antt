use Rattle.cv_laws.proofs.RoundNumbers.{numbers_rise}
use Rattle.cv_laws.proofs.rounds.numbers_rise.Goals as goal

-- src/rounds.rt
pub returns : goal.returns
returns c = numbers_rise
