use Rattle.cv_audit.proofs.Tests.{tests_are_following}
use Rattle.cv_audit.proofs.laws.tests_are_following.Goals as goal

pub returns : goal.returns
returns c = tests_are_following
