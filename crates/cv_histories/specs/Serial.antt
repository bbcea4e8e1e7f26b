-- The history in which the runs are taken in order by worker 0, each live run under the newest
-- version of the entries before it (docs/REPAIR.md, "The serial history").
use Rattle.std.specs.Prelude.{ℕ, ◌+◌, ◌-◌, List, [], ◌∷◌, length, map, unwrap_or}
use Rattle.cv_base.specs.declared.entries.Entry.{Entry}
use Rattle.cv_base.specs.declared.plan.Mode.{Mode}
use Rattle.cv_base.specs.declared.plan.Mode.TheVariants.{Learn, Live}
use Rattle.cv_base.specs.PlanOf.{PlanOf}
use Rattle.cv_runs.specs.PatchedRun.{PatchedStep, run_under, entries_in, steps_of, notes_of}
use Rattle.cv_runs.specs.PlainRun.{Step, plain_run}
use Rattle.cv_histories.specs.EntryOf.{entry_of}
use Rattle.cv_histories.specs.Runs.{Run, runs}
use Rattle.cv_histories.specs.Seen.{Seen}
use Rattle.cv_histories.specs.Versions.{Ledger, ledger, posted, newest_of}

-- the entry of a learn run by worker 0, of its plain steps
abbrev pub learn_entry : PlanOf → ℕ → Run → List Step → Entry
learn_entry plan number run steps = entry_of plan (record { number = number; worker = 0; mode = Learn; input = run.input }) [] steps []

-- the entry of a live run by worker 0 that adopted one version at all its block entries
abbrev pub live_entry : PlanOf → ℕ → Run → ℕ → List PatchedStep → Entry
live_entry plan number run version steps =
    entry_of plan (record { number = number; worker = 0; mode = Live; input = run.input }) (record { version = version; entries = entries_in steps } ∷ []) (steps_of steps) (notes_of steps)

abbrev pub entry_of_mode : Mode → PlanOf → Ledger → ℕ → Run → Entry
entry_of_mode Learn plan l number run = learn_entry plan number run (plain_run plan.image run.input plan.budget)
entry_of_mode Live plan l number run =
    live_entry plan number run (length l.versions - 1)
    (unwrap_or (run_under plan.image run.input plan.budget (newest_of l.versions)) [])

abbrev pub next_entry : PlanOf → Ledger → ℕ → Run → Entry
next_entry plan l number run = entry_of_mode run.mode plan l number run

abbrev pub serial_from : PlanOf → ℕ → List Run → Ledger → Ledger
serial_from plan number [] l = l
serial_from plan number (run ∷ rest) l = serial_from plan (number + 1) rest (posted plan l (next_entry plan l number run))

abbrev pub serial_ledger : PlanOf → Ledger
serial_ledger plan = serial_from plan 0 (runs plan) (ledger plan [])

-- the newest entry first
abbrev pub serial : PlanOf → List Entry
serial plan = map (λ (s : Seen). s.entry) (serial_ledger plan).seen
