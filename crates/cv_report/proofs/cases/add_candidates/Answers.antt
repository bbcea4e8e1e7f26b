use Rattle.std.proofs.Common.{◌∙◌, ◌++◌, ap, arith, length, refl, string_bytes}
use Rattle.std.specs.Prelude.{Option}
use Rattle.std.proofs.lemmas.Option.{slice_get_read, slice_get_within}
use Rattle.cv_base.specs.declared.cases.Class.{Class}
use Rattle.cv_histories.specs.Classes.{class_of}
use Rattle.cv_histories.specs.Report.{candidate_lines, line}
use Rattle.cv_manager.specs.ManagerOf.{seen_in}
use Rattle.cv_report.proofs.Lines.{one_more}
use Rattle.cv_report.specs.Pieces.{candidate_line}
use Rattle.cv_report.proofs.cases.add_candidates.Goals as goal

pub overflow_cast-number : goal.overflow_cast-number
overflow_cast-number c =
    omega (arith, c.requires.few, ap length c.as_slice-candidate-items.ensures)

pub class-class-requires-clause-case : goal.class-class-requires-clause-case
class-class-requires-clause-case c = slice_get_within _ _ _ c.requires.case

pub loop-number-preserved : goal.loop-number-preserved
loop-number-preserved c =
    let m = c.args.manager.now in
    let at = c.loop-number.number in
    let k = c.candidate-item.result in
    let read = slice_get_read c.as_slice-candidate-items.result.now _ at k refl c.loop-number-test.true c.candidate-item.is in
    one_more (candidate_lines m.plan c.args.index c.args.case.now (seen_in m)) c.args.case.now.candidates at k
    (line (candidate_line c.args.index at k (class_of m.plan c.args.index c.args.case.now at (seen_in m)))) _ _ _
    (rw c.as_slice-candidate-items.ensures at read) refl c.loop-number.invariant
    (c.in_ok-push_str.ensures.bytes
    ∙ ap (λ l. string_bytes c.loop-number.text ++ l)
    (c.as_str.ensures.value ∙ c.in_ok-line.ensures ∙ ap (λ (o : Option Class). line (candidate_line c.args.index at k o)) (c.class-class.ensures c.args.case.now c.requires.case)))
