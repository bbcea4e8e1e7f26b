use Rattle.std.proofs.Common.{◌≡◌, true, length, map, drop}
use Rattle.std.specs.List.{list_all}
use Rattle.serde_json.specs.View.{view}
use Rattle.cv_job.specs.Fields.{each}
use Rattle.cv_job.specs.Limits.{is_input}
use Rattle.cv_job.specs.Rounds.{input_of}
use Rattle.cv_job.proofs.Prepended.{prepended}
use Rattle.cv_job.proofs.rounds.inputs_in.Given as goal

abbrev pub invariant-loop-value : goal.invariant-loop-value
invariant-loop-value l = record {
  so_far : prepended l.inputs.items (each input_of (map view (drop l.value-index l.values))) ≡ each input_of (map view l.values);
  count : length l.inputs.items ≡ l.value-index;
  each_input : list_all is_input l.inputs.items ≡ true;
}
