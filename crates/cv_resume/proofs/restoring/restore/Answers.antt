use Rattle.std.proofs.Common.{◌∙◌, List, Ok, sym, ap}
use Rattle.cv_base.specs.declared.entries.Entry.{Entry}
use Rattle.cv_resume.proofs.Joined.{book_joined}
use Rattle.cv_resume.proofs.restoring.restore.Goals as goal

pub returns-in-Ok-clause-joined : goal.returns-in-Ok-clause-joined
returns-in-Ok-clause-joined c =
    book_joined c.lines_read_exactly.ensures.exactly c.numbers_are_read_back.ensures c.pieces_join_again.ensures c.pieces_are_some.ensures c.args.plan c.args.pieces.now c.as_slice.result.now c.rebuilt.result
    (sym c.in_ok-entries.ensures ∙ c.in-Ok.is ∙ ap (λ (es : List Entry). Ok es) (sym c.as_slice.ensures)) c.rebuilt.ensures.book
