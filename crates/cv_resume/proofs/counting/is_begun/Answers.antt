use Rattle.std.proofs.Common.{sym, ◌∙◌}
use Rattle.cv_resume.proofs.counting.is_begun.Goals as goal

pub returns-then-round_of-round-clause-some : goal.returns-then-round_of-round-clause-some
returns-then-round_of-round-clause-some c =
    λ is. (c.entry-item.result, c.entries_are_contained.ensures c.args.history.now c.loop-entry.entry-index c.entry-item.result c.loop-entry-test.true c.entry-item.is, sym c.round_of.ensures ∙ c.if-round_of-round.true)
