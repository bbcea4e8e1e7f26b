use Rattle.std.proofs.Common.{[], arith}
use Rattle.std.proofs.lemmas.List.{append-nil}
use Rattle.cv_manager.specs.Posting.{all_of}
use Rattle.cv_manager.proofs.Progressing.{as_many_progress, none_left, stands_as_read}
use Rattle.cv_manager.proofs.progress.progress_with.Goals as goal

pub bounds-progress-number : goal.bounds-progress-number
bounds-progress-number c =
    omega (arith, as_many_progress c.args.posting.now.plan c.args.posting.now.past 0 c.args.cases.now c.args.progress.now c.requires.stand)

pub with_entry-requires-clause-stands : goal.with_entry-requires-clause-stands
with_entry-requires-clause-stands c =
    stands_as_read c.args.posting.now.plan c.args.posting.now.past c.args.cases.now c.args.progress.now c.loop-number.number c.index-cases-number.result c.index-progress-number.result c.index-cases-number.is c.index-progress-number.is c.loop-number-test.true c.requires.stand

pub returns : goal.returns
returns c =
    rw append-nil at (c.loop-number.invariant [] (none_left c.args.posting.now.plan (all_of c.args.posting.now) c.loop-number.number c.args.cases.now c.loop-number-test.false))
