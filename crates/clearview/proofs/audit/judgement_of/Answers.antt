use Rattle.std.proofs.Common.{subst}
use Rattle.cv_audit.specs.Judged.{IsVerdict}
use Rattle.clearview.proofs.Auditing.{sound_told}
use Rattle.clearview.proofs.audit.judgement_of.Goals as goal

pub returns-in_ok-text-in-Sound-clause-found : goal.returns-in_ok-text-in-Sound-clause-found
returns-in_ok-text-in-Sound-clause-found c =
    let said = subst (IsVerdict c.args.plan c.as_slice.result.now) c.in-Sound.is c.in_ok-book.ensures in
    rw (c.told.ensures, ← c.as_slice.ensures) (said.0.legal, said.1)

pub returns-in_ok-text-in-Sound-clause-text : goal.returns-in_ok-text-in-Sound-clause-text
returns-in_ok-text-in-Sound-clause-text c =
    let said = subst (IsVerdict c.args.plan c.as_slice.result.now) c.in-Sound.is c.in_ok-book.ensures in
    rw (c.told.ensures, ← c.as_slice.ensures)
    (sound_told c.args.plan c.args.journal.now.text c.as_slice.result.now c.in-Sound.book _ said.0 (rw c.as_slice-in-Sound.ensures at c.in_ok-text-in-Sound.ensures))
