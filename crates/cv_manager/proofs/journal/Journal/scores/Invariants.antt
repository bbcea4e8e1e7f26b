use Rattle.std.proofs.Common.{◌≡◌, length, take}
use Rattle.std.specs.Prelude.{reverse}
use Rattle.cv_score.specs.Charged.{StandsFor}
use Rattle.cv_manager.proofs.journal.Journal.scores.Given as goal

abbrev pub invariant-loop-place : goal.invariant-loop-place
invariant-loop-place l = record {
  case : l.scores.case ≡ l.number;
  repairs : length l.scores.counts ≡ l.repairs;
  charged : StandsFor l.scores l.case (reverse (take l.place (reverse l.self)));
}
