use Rattle.std.proofs.Common.{◌≡◌, ℕ, ◌+◌, ◌≤◌, List, length, map, Result, subst, ap, ◌∙◌, arith}
use Rattle.cv_asm.specs.declared.fault.AsmFault.{AsmFault}
use Rattle.cv_asm.specs.Assembled.{Answers}
use Rattle.cv_asm.specs.Labels.{read_lines}
use Rattle.cv_asm.specs.Lines.{line_of}
use Rattle.cv_asm.specs.Source.{source_of, words_of}
use Rattle.cv_asm.proofs.Stepping.{few_lines, lines_read}
use Rattle.cv_asm.proofs.assembler.assemble.Goals as goal

pub labels-requires : goal.labels-requires
labels-requires c =
    let few : length c.in_ok-lines.lines.items ≤ length c.args.text.now + 1 = few_lines c.args.text.now c.in_ok-lines.lines.items c.in_ok-lines.ensures in
    omega (arith, few, ap length c.as_slice.ensures.value, c.requires)

pub words-requires-clause-few : goal.words-requires-clause-few
words-requires-clause-few c =
    let few : length c.in_ok-lines.lines.items ≤ length c.args.text.now + 1 = few_lines c.args.text.now c.in_ok-lines.lines.items c.in_ok-lines.ensures in
    omega (arith, few, ap length c.as_slice-2.ensures.value, c.requires)

pub returns : goal.returns
returns c =
    let same : words_of (read_lines c.as_slice-2.result.now) ≡ source_of c.args.text.now =
    ap words_of (ap read_lines c.as_slice-2.ensures.value ∙ lines_read c.in_ok-lines.lines.items ∙ ap (map line_of) c.in_ok-lines.ensures) in
    subst (λ (r : Result (List ℕ) AsmFault). Answers (λ v. v.items) r c.words.result) same c.words.ensures
