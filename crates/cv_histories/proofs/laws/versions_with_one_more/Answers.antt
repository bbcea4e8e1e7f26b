use Rattle.cv_histories.proofs.OneMore.{versions_of-push}
use Rattle.cv_histories.proofs.laws.versions_with_one_more.Goals as goal

pub returns : goal.returns
returns c = versions_of-push
