use Rattle.std.proofs.Common.{sym, ap, ◌∙◌, arith, rules}
use Rattle.cv_elf.proofs.Pairs.{head, texts_here, text_after}
use Rattle.cv_elf.proofs.segments.second_text.Goals as goal

pub returns-in_err-place : goal.returns-in_err-place
returns-in_err-place c =
    let first = texts_here c.loop-left.left.now (omega arith) (search rules) in
    let none = first ∙ ap (λ o. text_after (head c.loop-left.left.now) o) (sym c.in_err-place.ensures) in
    let ended = sym none ∙ c.loop-left.invariant in
    grind (arith, ended)

pub returns-then-is_executable : goal.returns-then-is_executable
returns-then-is_executable c =
    let first = texts_here c.loop-left.left.now (omega arith) (search rules) in
    sym (first ∙ ap (λ o. text_after (head c.loop-left.left.now) o) (sym c.in_ok-place.ensures)) ∙ c.loop-left.invariant
