use Rattle.std.proofs.Common.{◌∙◌, sym}
use Rattle.cv_worker.proofs.Ending.{all_met}
use Rattle.cv_worker.proofs.rounds.round.Goals as goal

-- src/rounds.rt
pub returns-clause-end : goal.returns-clause-end
returns-clause-end g c = λ s of. all_met s c.run_all.new.instances (sym c.any_refused.ensures ∙ c.if-any_refused.false) (c.run_all.ensures.end s of)
