use Rattle.std.proofs.Common.{ℕ, Result, Ok, [], ◌∷◌, sym, subst, ap, ◌∙◌}
use Rattle.cv_isa.specs.Instruction.{IsInstruction}
use Rattle.cv_isa.specs.Names.{word_of}
use Rattle.cv_asm.specs.declared.fault.LineFault.{LineFault}
use Rattle.cv_asm.specs.Labels.{place_by, texts_of}
use Rattle.cv_asm.proofs.ShapeFields.{format_for, known_ok, known_refused, shape_format, three_fit}
use Rattle.cv_asm.proofs.encoder.with_three.Goals as goal

pub word-requires : goal.word-requires
word-requires c = subst IsInstruction (sym (c.three_fields.ensures c.args.op)) (three_fit c.args.shape c.args.op c.in-Ok.values.0 c.in-Ok.values.1 c.in-Ok.values.2 (shape_format c.args.op ∙ ap format_for c.requires.shape) c.requires.count c.in-Ok.ensures.fits)

pub returns-in-Ok : goal.returns-in-Ok
returns-in-Ok c =
    let okay : ℕ → Result ℕ LineFault = λ n. Ok n in
    ap okay (c.word.ensures ∙ ap word_of (c.three_fields.ensures c.args.op))
    ∙ sym (known_ok (place_by c.args.labels.now) c.args.place c.args.op c.args.shape (texts_of c.args.operands.now) (c.in-Ok.values.0 ∷ c.in-Ok.values.1 ∷ c.in-Ok.values.2 ∷ []) c.requires.shape c.in-Ok.ensures.ok)

pub returns-in-Err : goal.returns-in-Err
returns-in-Err c = sym (known_refused (place_by c.args.labels.now) c.args.place c.args.op c.args.shape (texts_of c.args.operands.now) c.in-Err.fault c.requires.shape c.in-Err.ensures.err)
