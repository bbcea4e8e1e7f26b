use Rattle.std.proofs.Common.{◌∙◌, sym, ap, ◌++◌, drop, ◌+◌, arith}
use Rattle.cv_manager.specs.Progress.{classes_from}
use Rattle.cv_manager.proofs.ByNumber.{one_more_class}
use Rattle.cv_manager.proofs.decided.classes_of.Goals as goal

pub loop-candidate-preserved : goal.loop-candidate-preserved
loop-candidate-preserved c = λ seen stands.
    let x = c.loop-candidate.candidate in
    ap (λ l. l ++ classes_from c.args.counted.now.case (x + 1) seen (drop (x + 1) c.args.case.now.candidates)) c.in_ok-push.ensures.items
    ∙ sym (one_more_class c.args.counted.now.case seen c.args.case.now.candidates c.loop-candidate.classes.items c.class.result x (omega arith) (c.class.ensures seen stands))
    ∙ c.loop-candidate.invariant seen stands
