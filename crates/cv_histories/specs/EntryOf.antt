-- The entry of a run: what it did, from its steps and from what its patches noted
-- (docs/REPAIR.md, "Entries").
use Rattle.std.specs.Prelude.{ℕ, List, length}
use Rattle.cv_base.specs.declared.entries.Adopted.{Adopted}
use Rattle.cv_base.specs.declared.entries.Entry.{Entry}
use Rattle.cv_base.specs.declared.plan.Mode.{Mode}
use Rattle.cv_base.specs.PlanOf.{PlanOf}
use Rattle.cv_runs.specs.Apply.{Note}
use Rattle.cv_runs.specs.PlainRun.{Step, end_of, state_left}
use Rattle.cv_runs.specs.State.{start_state}
use Rattle.cv_histories.specs.Rows.{sites_in, checks_in, firings_in, tally_of, fired_of}

-- who ran which run of the plan, in which mode and on which input
pub record Taken : Type 0 where
  pub number : ℕ
  pub worker : ℕ
  pub mode : Mode
  pub input : List ℕ

abbrev pub entry_of : PlanOf → Taken → List Adopted → List Step → List Note → Entry
entry_of plan taken adopted steps notes = record {
  run = taken.number;
  worker = taken.worker;
  mode = taken.mode;
  adopted = adopted;
  end = end_of steps;
  turns = length steps;
  sites = sites_in steps;
  output = (state_left (start_state plan.image taken.input) steps).output;
  tally = tally_of (checks_in notes);
  fired = fired_of (firings_in notes);
}
