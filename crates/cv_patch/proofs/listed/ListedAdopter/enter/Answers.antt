use Rattle.std.proofs.Common.{arith}
use Rattle.std.proofs.lemmas.Grind.{common_steps}
use Rattle.cv_patch.proofs.Answered.{all_and_one}
use Rattle.cv_patch.proofs.listed.ListedAdopter.enter.Goals as goal

pub returns-then-self-len-clause-answers : goal.returns-then-self-len-clause-answers
returns-then-self-len-clause-answers c =
    all_and_one _ _ c.index-version.result.now (λ n h. grind (arith, common_steps)) (grind (arith, common_steps))
