use Rattle.std.proofs.Common.{sym, ap, ◌∙◌}
use Rattle.cv_asm.specs.declared.shapes.Kind.{Kind}
use Rattle.cv_asm.specs.Labels.{place_by}
use Rattle.cv_asm.specs.Operands.{operand_in}
use Rattle.cv_asm.proofs.Capping.{target_refused}
use Rattle.cv_asm.proofs.operands.operand.Goals as goal

pub returns-in-Err-clause-value : goal.returns-in-Err-clause-value
returns-in-Err-clause-value c =
    sym (ap (λ (kd : Kind). operand_in (place_by c.args.labels.now) c.args.from c.args.k kd c.args.text.now) c.in-Target.is
    ∙ target_refused (place_by c.args.labels.now) c.args.from c.args.k c.in-Target.low c.in-Target.high c.args.text.now c.in-Err.fault c.in-Err.ensures)
