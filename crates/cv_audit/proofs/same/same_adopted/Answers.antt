use Rattle.std.proofs.Common.{arith}
use Rattle.std.proofs.lemmas.Grind.{common_steps}
use Rattle.std.proofs.lemmas.Slice.Eq.{slice_eq-Decides}
use Rattle.cv_audit.proofs.same.same_adopted.Goals as goal

pub returns : goal.returns
returns c = slice_eq-Decides (λ a b. (grind (arith, common_steps), grind (arith, common_steps))) c.args.a.now c.args.b.now c.eq.result c.eq.ensures
