use Rattle.cv_histories.proofs.OneMore.{IsLegal-before}
use Rattle.cv_histories.proofs.laws.legal_before.Goals as goal

pub returns : goal.returns
returns c = IsLegal-before
