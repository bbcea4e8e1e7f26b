use Rattle.std.proofs.Common.{◌≡◌, ◌<◌, ◌-◌, length, List}
use Rattle.cv_base.specs.declared.cases.Case.{Case}
use Rattle.cv_histories.specs.Scores.{best, best_from, score}
use Rattle.cv_histories.specs.Seen.{Seen}
use Rattle.cv_score.specs.Charged.{StandsFor}
use Rattle.cv_score.proofs.scores.Scores.best.Given as goal

abbrev pub invariant-loop-repair : goal.invariant-loop-repair
invariant-loop-repair l = record {
  within : l.best < l.repair;
  best : (c : Case) (past : List Seen) → StandsFor l.self c past → best_from (λ j. score l.self.case c j past) l.best l.repair (length l.self.counts - l.repair) ≡ best l.self.case c (length l.self.counts) past;
}
