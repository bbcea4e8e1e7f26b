use Rattle.std.proofs.Common.{ℕ, Result, Ok, sym, subst, ap, ◌∙◌, arith}
use Rattle.cv_isa.specs.Instruction.{IsInstruction}
use Rattle.cv_isa.specs.Names.{word_of}
use Rattle.cv_asm.specs.declared.fault.LineFault.{LineFault}
use Rattle.cv_asm.specs.Labels.{place_by}
use Rattle.cv_asm.proofs.ShapeFields.{count_refused, format_for, none_fit, none_ok, shape_format}
use Rattle.cv_asm.proofs.encoder.with_none.Goals as goal

pub word-requires : goal.word-requires
word-requires c = subst IsInstruction (sym (c.no_fields.ensures c.args.op)) (none_fit c.args.shape c.args.op (shape_format c.args.op ∙ ap format_for c.requires.shape) c.requires.count)

pub returns-in-empty : goal.returns-in-empty
returns-in-empty c =
    let okay : ℕ → Result ℕ LineFault = λ n. Ok n in
    ap okay (c.word.ensures ∙ ap word_of (c.no_fields.ensures c.args.op))
    ∙ sym (none_ok (place_by c.args.labels.now) c.args.place c.args.op c.args.shape c.args.operands.now c.requires.shape c.requires.count (omega arith))

pub returns-in_default : goal.returns-in_default
returns-in_default c = sym (count_refused (place_by c.args.labels.now) c.args.place c.args.op c.args.shape c.args.operands.now c.requires.shape (λ same. absurd (omega arith)))
