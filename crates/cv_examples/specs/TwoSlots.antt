-- A program that reads two addresses from the stack and calls one with the other: a repair is
-- withdrawn and a second case opens; then two late wins of the withdrawn repair.
use Rattle.std.specs.Prelude.{ℕ, ℤ, List, [], ◌∷◌, length, map, take, unwrap_or, slice_get, Option, Some, option_map}
use Rattle.cv_base.specs.declared.cases.Case.{Case}
use Rattle.cv_base.specs.declared.cases.Change.{Change}
use Rattle.cv_base.specs.declared.ends.End.{End}
use Rattle.cv_base.specs.declared.entries.Adopted.{Adopted}
use Rattle.cv_base.specs.declared.entries.Entry.{Entry}
use Rattle.cv_base.specs.declared.entries.FiredRow.{FiredRow}
use Rattle.cv_base.specs.declared.plan.Mode.TheVariants.{Learn, Live}
use Rattle.cv_base.specs.PlanOf.{PlanOf}
use Rattle.cv_runs.specs.PatchedRun.{run_under}
use Rattle.cv_histories.specs.Cases.{cases}
use Rattle.cv_histories.specs.DrillPlan.{flat_image}
use Rattle.cv_histories.specs.Installed.{changes, installed}
use Rattle.cv_histories.specs.Runs.{Run, run_at, runs}
use Rattle.cv_histories.specs.Scores.{score}
use Rattle.cv_histories.specs.Seen.{Seen, table_at}
use Rattle.cv_histories.specs.Serial.{live_entry, serial_from}
use Rattle.cv_histories.specs.Versions.{Ledger, ledger, posted}

abbrev pub two_slots_words : List ℕ
two_slots_words =
    0x00000513 ∷ 0xff010593 ∷ 0x00800613 ∷ 0x03f00893 ∷ 0x00000073 ∷ 0xff012303 ∷ 0xff412383 ∷ 0x000300e7 ∷
    0x05d00893 ∷ 0x00000073 ∷ 0x0003a503 ∷ 0x00008067 ∷ 0x00900513 ∷ 0x00008067 ∷ []

abbrev pub two_slots_plan : PlanOf
two_slots_plan = record {
  image = flat_image two_slots_words;
  workers = 1;
  checks = 2;
  budget = 1000;
  rounds =
      record { mode = Learn; inputs = (40 ∷ 0 ∷ 1 ∷ 0 ∷ 0 ∷ 0 ∷ 1 ∷ 0 ∷ []) ∷ (48 ∷ 0 ∷ 1 ∷ 0 ∷ 0 ∷ 0 ∷ 0 ∷ 0 ∷ []) ∷ [] } ∷
      record { mode = Live; inputs = (0 ∷ 0 ∷ 0 ∷ 0 ∷ 0 ∷ 0 ∷ 0 ∷ 0 ∷ []) ∷ (0 ∷ 0 ∷ 0 ∷ 0 ∷ 0 ∷ 0 ∷ 0 ∷ 0 ∷ []) ∷ (0 ∷ 0 ∷ 0 ∷ 0 ∷ 0 ∷ 0 ∷ 0 ∷ 0 ∷ []) ∷ (0 ∷ 0 ∷ 0 ∷ 0 ∷ 0 ∷ 0 ∷ 0 ∷ 0 ∷ []) ∷ (0 ∷ 0 ∷ 0 ∷ 0 ∷ 0 ∷ 0 ∷ 0 ∷ 0 ∷ []) ∷ [] } ∷ [];
}

-- what an entry says of its run's versions, end and repairs
pub record Outline : Type 0 where
  pub worker : ℕ
  pub adopted : List Adopted
  pub end : End
  pub turns : ℕ
  pub sites : List ℕ
  pub fired : List FiredRow

abbrev pub outline : Entry → Outline
outline e = record { worker = e.worker; adopted = e.adopted; end = e.end; turns = e.turns; sites = e.sites; fired = e.fired }

-- the newest entry, and the entry before it
abbrev pub newest_outlines : ℕ → Ledger → List Outline
newest_outlines n l = map (λ (s : Seen). outline s.entry) (take n l.seen)

abbrev pub score_of : ℕ → List Case → List Seen → Option ℤ
score_of j cases seen = option_map (λ (c : Case). score 0 c j seen) (slice_get cases 0)

-- what a history comes to: patches of each version, candidates of each case, changes, the scores
-- of repairs 0 and 1 of case 0, and the repair of case 0 that is installed
pub record Standing : Type 0 where
  pub versions : List ℕ
  pub candidates : List ℕ
  pub changes : List Change
  pub scores : List (Option ℤ)
  pub installed : Option (Option ℕ)

abbrev pub standing_with : PlanOf → Ledger → List Case → Standing
standing_with plan l cases = record {
  versions = map (λ t. length t) l.versions;
  candidates = map (λ (c : Case). length c.candidates) cases;
  changes = changes plan l.seen;
  scores = score_of 0 cases l.seen ∷ score_of 1 cases l.seen ∷ [];
  installed = option_map (λ (c : Case). installed plan 0 c l.seen) (slice_get cases 0);
}

abbrev pub standing_of : PlanOf → Ledger → Standing
standing_of plan l = standing_with plan l (cases plan l.seen)

abbrev pub late_plan : PlanOf
late_plan = record {
  image = flat_image two_slots_words;
  workers = 3;
  checks = 2;
  budget = 1000;
  rounds =
      record { mode = Learn; inputs = (40 ∷ 0 ∷ 1 ∷ 0 ∷ 0 ∷ 0 ∷ 1 ∷ 0 ∷ []) ∷ (48 ∷ 0 ∷ 1 ∷ 0 ∷ 0 ∷ 0 ∷ 0 ∷ 0 ∷ []) ∷ [] } ∷
      record { mode = Live; inputs = (0 ∷ 0 ∷ 0 ∷ 0 ∷ 0 ∷ 0 ∷ 0 ∷ 0 ∷ []) ∷ (0 ∷ 0 ∷ 0 ∷ 0 ∷ 0 ∷ 0 ∷ 0 ∷ 0 ∷ []) ∷ (0 ∷ 0 ∷ 0 ∷ 0 ∷ 0 ∷ 0 ∷ 0 ∷ 0 ∷ []) ∷ (0 ∷ 0 ∷ 0 ∷ 0 ∷ 0 ∷ 0 ∷ 0 ∷ 0 ∷ []) ∷ (0 ∷ 0 ∷ 0 ∷ 0 ∷ 0 ∷ 0 ∷ 1 ∷ 0 ∷ []) ∷ (0 ∷ 0 ∷ 0 ∷ 0 ∷ 0 ∷ 0 ∷ 1 ∷ 0 ∷ []) ∷ [] } ∷ [];
}

-- the entries of the first six runs by worker 0
abbrev pub six : Ledger
six = serial_from late_plan 0 (take 6 (runs late_plan)) (ledger late_plan [])

-- then a run by another worker that adopted version 2 all along
abbrev pub late_entry : Ledger → ℕ → ℕ → Run → Entry
late_entry l worker number run =
    record (live_entry late_plan number run 2 (unwrap_or (run_under late_plan.image run.input late_plan.budget (table_at l.versions (Some 2))) [])) { worker = worker }

abbrev pub with_late : ℕ → ℕ → Ledger → Ledger
with_late worker number l =
    unwrap_or (option_map (λ run. posted late_plan l (late_entry l worker number run)) (run_at late_plan number)) l
