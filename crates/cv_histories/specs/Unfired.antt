-- Runs in which no repair fired are those of the program without patches (docs/REPAIR.md,
-- "Patched runs").
use Rattle.std.specs.Prelude.{◌≡◌, List, [], IfSome}
use Rattle.std.specs.List.{AllByRecursion}
use Rattle.cv_base.specs.declared.entries.Entry.{Entry}
use Rattle.cv_base.specs.PlanOf.{PlanOf}
use Rattle.cv_runs.specs.PlainRun.{plain_run}
use Rattle.cv_histories.specs.Honest.{Tells}
use Rattle.cv_histories.specs.Runs.{Run, run_at}

-- an entry says what the plain run of its input did: end, turns, output and sites
abbrev pub SaysPlain : PlanOf → Entry → Type 0
SaysPlain plan e = IfSome (run_at plan e.run) (λ (r : Run). Tells plan r.input (plain_run plan.image r.input plan.budget) e)

-- each entry of a history in which no repair fired says so
abbrev pub UnfiredArePlain : PlanOf → List Entry → Type 0
UnfiredArePlain plan past = AllByRecursion (λ (e : Entry). e.fired ≡ [] → SaysPlain plan e) past
