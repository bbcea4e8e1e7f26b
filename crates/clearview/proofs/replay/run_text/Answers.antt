use Rattle.std.proofs.Common.{sym}
use Rattle.clearview.proofs.Visits.{honest_for}
use Rattle.clearview.proofs.replay.run_text.Goals as goal

pub entry_text-requires : goal.entry_text-requires
entry_text-requires c =
    rw c.manager-manager.ensures.value
    (honest_for c.args.book.now.plan c.args.book.now.past c.args.entries.now c.args.run c.in-Some.entry.now c.legal_is_honest.ensures c.manager-manager.ensures.legal c.requires (sym c.in-Some.ensures))
