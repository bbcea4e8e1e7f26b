use Rattle.cv_desk.proofs.Starting.{starts}
use Rattle.cv_desk.proofs.office.Draft.make.Goals as goal

-- src/office.rt
pub open-requires-clause-start : goal.open-requires-clause-start
open-requires-clause-start c =
    starts c.runs_are_counted.ensures c.some_version.ensures c.legal_is_few.ensures
    (record { plan = c.args.book.plan; past = c.args.book.past; round = c.args.round }) c.limits.ensures.plan c.limits.ensures.legal
