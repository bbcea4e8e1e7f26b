use Rattle.std.proofs.Common.{Option, subst}
use Rattle.std.specs.Prelude.{IfSome}
use Rattle.cv_exec.specs.RecordOf.{RecordOf}
use Rattle.cv_manager.specs.ManagerOf.{ledger_in}
use Rattle.cv_audit.specs.Rerun.{IsAgain}
use Rattle.cv_audit.proofs.Judging.{ran_may_follow}
use Rattle.cv_audit.proofs.verdict.take.Goals as goal

pub keep-requires-clause-follows : goal.keep-requires-clause-follows
keep-requires-clause-follows c =
    let m = c.args.book.now in
    let e = c.args.entry.now in
    let again = subst (λ (found : Option RecordOf). IfSome found (λ (r : RecordOf). IsAgain m.plan (ledger_in m).versions e r)) c.in-Some-2.is c.in_ok-ran.ensures.again in
    ran_may_follow m.plan m.past e c.in-Some-2.ran.entry again.entry_is (c.broken_at_first.ensures.none c.in_default.is) again.honest
