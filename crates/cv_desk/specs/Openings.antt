-- What there is when an office is made (docs/REPAIR.md, "The office").
use Rattle.std.specs.Prelude.{◌<◌, ℕ, List, length}
use Rattle.std.specs.List.{AllByRecursion, range_with_len}
use Rattle.atomic_table.specs.Seated.{TableId}
use Rattle.cv_base.specs.declared.entries.Entry.{Entry}
use Rattle.cv_base.specs.PlanOf.{PlanOf}
use Rattle.cv_desk.specs.declared.making.Making.{Making}
use Rattle.cv_histories.specs.Legal.{EarlierRoundsDone, round_of}
use Rattle.cv_histories.specs.Versions.{ledger, newest}
use Rattle.cv_histories.specs.World.{numbers_of}
use Rattle.cv_rule.specs.declared.view.Opening.{Opening}
use Rattle.cv_runs.specs.PatchedRun.{Table}

-- a plan, a history of it with the newest entry first, and a round
pub record SettingOf : Type 0 where
  pub plan : PlanOf
  pub past : List Entry
  pub round : ℕ

-- a table that was made for this
pub record DraftOf : Type 0 where
  pub table : TableId
  pub setting : SettingOf

abbrev pub opening_of : SettingOf → Opening Making
opening_of s = record {
  making = record { plan = s.plan; round = s.round; past = s.past };
  runs = length (numbers_of s.plan s.round);
  workers = s.plan.workers;
  newest = newest s.plan s.past;
}

abbrev pub versions_of : SettingOf → List Table
versions_of s = (ledger s.plan s.past).versions

abbrev pub workers_of : SettingOf → List ℕ
workers_of s = range_with_len 0 s.plan.workers

-- a history that has the entries of all runs of the rounds below this one, and no others
pub record IsUpTo (plan : PlanOf) (round : ℕ) (past : List Entry) : Type 0 where
  pub all : EarlierRoundsDone plan round past
  pub no_others : AllByRecursion (λ (o : Entry). round_of plan o < round) past

-- the round is the plan's, and the history is up to it
pub record IsSetting (s : SettingOf) : Type 0 where
  pub within : s.round < length s.plan.rounds
  pub up_to : IsUpTo s.plan s.round s.past
