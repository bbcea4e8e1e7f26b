use Rattle.std.proofs.Common.{ap, sym, ◌∙◌}
use Rattle.std.specs.Prelude.{reverse}
use Rattle.cv_manager.specs.ManagerOf.{ManagerOf}
use Rattle.cv_replay_examples.proofs.Honest.{honest_in_order}
use Rattle.cv_replay_examples.proofs.posted.run_of.Goals as goal

pub entry_replay-requires : goal.entry_replay-requires
entry_replay-requires c =
    rw c.manager-manager.ensures.value
    (honest_in_order c.args.book.now.plan c.args.book.now.past _ c.args.run c.in-Some.entry.now c.legal_is_honest.ensures c.manager-manager.ensures.legal
    (c.history.ensures ∙ ap (λ (m : ManagerOf). reverse m.past) c.manager-manager.ensures.value) (sym c.in-Some.ensures))
