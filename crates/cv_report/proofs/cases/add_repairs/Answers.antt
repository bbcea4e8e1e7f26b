use Rattle.std.proofs.Common.{◌∙◌, ◌++◌, ap, arith, get_or, length, refl, string_bytes, sym}
use Rattle.std.specs.Prelude.{slice_get}
use Rattle.std.proofs.lemmas.Option.{slice_get-get_or}
use Rattle.cv_base.specs.declared.cases.Repair.{Repair}
use Rattle.cv_base.specs.declared.patches.Action.TheVariants.{SetConst}
use Rattle.cv_histories.specs.Repairs.{repairs_of}
use Rattle.cv_histories.specs.Report.{line, repair_lines}
use Rattle.cv_manager.specs.ManagerOf.{seen_in}
use Rattle.cv_report.proofs.Lines.{one_more}
use Rattle.cv_report.specs.Pieces.{repair_line}
use Rattle.cv_report.proofs.cases.add_repairs.Goals as goal

-- what the code reads past the end, where it never reads
no_repair : Repair
no_repair = record { candidate = 0; action = SetConst 0 0 }

pub overflow_cast-number : goal.overflow_cast-number
overflow_cast-number c =
    omega (arith, c.repairs-repair-items.ensures.few)

pub loop-number-preserved : goal.loop-number-preserved
unfolding no_repair
loop-number-preserved c =
    let m = c.args.manager.now in
    let at = c.loop-number.number in
    let list = c.repairs-repair-items.result.now in
    let r = get_or list at no_repair in
    one_more (repair_lines c.args.index c.args.case.now (seen_in m)) (repairs_of m.plan c.args.index c.args.case.now (seen_in m)) at r
    (line (repair_line c.args.index c.args.case.now (seen_in m) at r)) _ _ _
    (ap (λ l. slice_get l at) (sym (c.repairs-repair-items.ensures.value c.args.case.now c.requires)) ∙ slice_get-get_or list at no_repair c.loop-number-test.true) refl c.loop-number.invariant
    (c.in_ok-push_str.ensures.bytes ∙ ap (λ l. string_bytes c.loop-number.text ++ l) (c.as_str.ensures.value ∙ c.in_ok-line.ensures))
