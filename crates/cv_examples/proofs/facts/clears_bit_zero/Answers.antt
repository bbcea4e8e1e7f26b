use Rattle.cv_examples.proofs.Runs.{clears_bit_zero}
use Rattle.cv_examples.proofs.facts.clears_bit_zero.Goals as goal

pub returns : goal.returns
returns c = clears_bit_zero
