use Rattle.std.proofs.Common.{length, sym, ap, ◌∙◌, arith}
use Rattle.cv_manager.proofs.CaseLimits.{few_in_case}
use Rattle.cv_manager.specs.ManagerOf.{seen_in}
use Rattle.cv_manager.specs.Progress.{DecidedOf}
use Rattle.cv_manager.proofs.manager.Manager.repairs.Goals as goal

pub returns-in-Some-clause-few : goal.returns-in-Some-clause-few
returns-in-Some-clause-few c =
    let m = c.args.self.now in
    let of = c.case-of.result.now in
    let decides = c.in-Some.ensures of (sym c.case-of.ensures.value) in
    let said = c.case-of.ensures in
    let few = few_in_case m.plan c.args.case of (seen_in m) (record { kinds = said.kinds; points = said.points; few = said.few }) in
    omega (arith, few, ap length (c.as_slice.ensures ∙ ap (λ (d : DecidedOf). d.repairs) c.decided-in-Some.view_is ∙ decides.repairs))
