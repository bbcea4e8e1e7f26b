use Rattle.clearview.proofs.Auditing.{visit_found}
use Rattle.clearview.proofs.replay.shown.Goals as goal

pub returns-clause-found : goal.returns-clause-found
returns-clause-found g c =
    visit_found (g.S.Store.told c.args.store.now) (g.S.Store.told c.plan_of.new.store) c.args.visit.now.job.now c.args.visit.now.report.now c.args.visit.now.run c.args.visit.now.turn
    c.in_ok-plan.plan c.in_ok-journal.journal.text c.in_ok-journal.journal.entries c.in_ok-turn_of.field-0.found
    c.in_ok-plan.ensures.fetches c.in_ok-plan.ensures.gives c.in_ok-journal.ensures.gives (rw c.as_slice.ensures at c.in_ok-turn_of.ensures.found)
