use Rattle.std.proofs.Common.{subst}
use Rattle.cv_audit.specs.declared.verdict.Rebuilt.{Rebuilt}
use Rattle.cv_audit.specs.Judged.{IsRebuilt}
use Rattle.cv_audit.proofs.Judging.{verdict_of}
use Rattle.cv_audit.proofs.verdict.audit.Goals as goal

pub returns-in-Legal : goal.returns-in-Legal
returns-in-Legal c =
    let told = subst (λ (r : Rebuilt). IsRebuilt c.args.plan c.args.entries.now r) c.in-Legal.is c.in_ok-at.ensures in
    verdict_of c.args.plan c.args.entries.now c.in-Legal.book c.whole.result told c.whole.ensures
