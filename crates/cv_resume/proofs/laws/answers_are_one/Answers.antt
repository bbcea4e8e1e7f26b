use Rattle.cv_resume.proofs.OneAnswer.{answers_are_one}
use Rattle.cv_resume.proofs.laws.answers_are_one.Goals as goal

pub returns : goal.returns
returns c = answers_are_one c.tests_are_following.ensures c.one_more_entry.ensures c.legal_before.ensures
