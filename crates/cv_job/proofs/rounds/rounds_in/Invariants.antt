use Rattle.std.proofs.Common.{◌≡◌, true, length, map, drop}
use Rattle.std.specs.List.{list_all}
use Rattle.serde_json.specs.View.{view}
use Rattle.cv_job.specs.Fields.{each}
use Rattle.cv_base.specs.PlanOf.{is_round}
use Rattle.cv_job.specs.Rounds.{round_of}
use Rattle.cv_job.proofs.Prepended.{prepended}
use Rattle.cv_job.proofs.rounds.rounds_in.Given as goal

abbrev pub invariant-loop-value : goal.invariant-loop-value
invariant-loop-value l = record {
  so_far : prepended l.rounds.items (each round_of (map view (drop l.value-index l.values))) ≡ each round_of (map view l.values);
  count : length l.rounds.items ≡ l.value-index;
  each_round : list_all is_round l.rounds.items ≡ true;
}
