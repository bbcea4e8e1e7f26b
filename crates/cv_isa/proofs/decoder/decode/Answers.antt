use Rattle.std.proofs.Common.{◌≡◌, ◌<◌, ◌^◌, Some, None, sym, ap, ◌∙◌, arith, rules}
use Rattle.cv_isa.specs.declared.operation.Format.{Format}
use Rattle.cv_isa.specs.DecodeTable.{instruction_at}
use Rattle.cv_isa.proofs.Rows.{meaning_of-by_fields, meaning_from}
use Rattle.cv_isa.proofs.decoder.decode.Goals as goal

pub returns-in_err-op-clause-meaning : goal.returns-in_err-op-clause-meaning
returns-in_err-op-clause-meaning c =
    let small : c.args.word < 2 ^ 32 = omega arith in
    let none : c.from_residual.result ≡ None = search rules in
    none ∙ sym (meaning_of-by_fields c.args.word small ∙ ap (meaning_from c.args.word) (sym c.operation.ensures ∙ c.in_err-op.was))

pub returns-clause-meaning : goal.returns-clause-meaning
returns-clause-meaning c =
    let small : c.args.word < 2 ^ 32 = omega arith in
    let same = ap (λ (f : Format). instruction_at f c.in_ok-op.op c.args.word) c.format.ensures in
    ap Some (c.instruction.ensures ∙ same) ∙ sym (meaning_of-by_fields c.args.word small ∙ ap (meaning_from c.args.word) (sym c.operation.ensures ∙ c.in_ok-op.was))
