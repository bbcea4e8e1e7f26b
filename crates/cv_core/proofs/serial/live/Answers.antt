use Rattle.std.proofs.Common.{◌≡◌, ◌∙◌, ◌-◌, ℕ, [], ap, subst}
use Rattle.cv_base.specs.PlanOf.{PlanOf}
use Rattle.cv_core.specs.NewestOf.{NewestOf}
use Rattle.cv_histories.specs.Honest.{IsHonest}
use Rattle.cv_histories.specs.Versions.{newest}
use Rattle.cv_laws.specs.InOrder.{IsNext}
use Rattle.cv_manager.specs.ManagerOf.{ManagerOf, ledger_in}
use Rattle.cv_core.proofs.NextEntry.{live_is_next}
use Rattle.cv_core.proofs.serial.live.Goals as goal

pub returns-clause-next : goal.returns-clause-next
returns-clause-next c =
    let m = c.manager-manager.result.now in
    let n = c.live.new.adopter in
    let ran = c.in_ok-record.ensures in
    let adopter = ran.origin ∙ c.make-adopter.ensures in
    let newest_is : n.newest ≡ newest m.plan m.past = ap (λ (n : NewestOf). n.newest) adopter ∙ ap (λ (count : ℕ). count - 1) c.version_count.ensures.count in
    let tables_are : n.tables ≡ (ledger_in m).versions = ap (λ (n : NewestOf). n.tables) adopter ∙ c.versions.ensures in
    let honest = subst (λ (plan : PlanOf). IsHonest plan n.tables c.in_ok-record.record.entry) c.plan.ensures ran.honest in
    subst (λ (m : ManagerOf). IsNext m.plan m.past c.args.run c.in_ok-record.record.entry) c.manager-manager.ensures.value
    (live_is_next m c.args.run n c.in_ok-record.record.entry newest_is tables_are ran.run ran.by ran.live honest (ran.answers [] tt))
