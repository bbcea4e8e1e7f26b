-- What `infer` and `drill` write (docs/FORMATS.md, "Texts of the commands").
use Rattle.std.specs.Prelude.{ℕ, Bool, true, false, List, [], ◌++◌, length, filter, codes, is_some}
use Rattle.std.specs.Fmt.{decimal}
use Rattle.std.specs.List.{flat_map}
use Rattle.cv_base.specs.InvariantText.{invariant_text}
use Rattle.cv_base.specs.declared.cases.Change.{Change}
use Rattle.cv_base.specs.declared.ends.End.{End}
use Rattle.cv_base.specs.declared.ends.End.TheVariants.{Failure, Budget}
use Rattle.cv_base.specs.declared.entries.Entry.{Entry}
use Rattle.cv_base.specs.declared.entries.Observation.{Observation}
use Rattle.cv_base.specs.declared.invariants.Invariant.{Invariant}
use Rattle.cv_base.specs.PlanOf.{PlanOf}
use Rattle.cv_runs.specs.Learned.{learned, observations}
use Rattle.cv_runs.specs.PlainRun.{Step, plain_run, end_of}
use Rattle.cv_histories.specs.Cases.{cases}
use Rattle.cv_histories.specs.Installed.{changes}
use Rattle.cv_histories.specs.Report.{line}
use Rattle.cv_histories.specs.Runs.{Run, runs}
use Rattle.cv_histories.specs.Seen.{is_exit, is_live}
use Rattle.cv_histories.specs.Versions.{Ledger, ledger}

-- what is seen in a run that is learned from: a learn run that ends by exit
abbrev pub seen_in_run : List Step → List Observation
seen_in_run steps = elim (is_exit (end_of steps)) [ true ↦ observations steps | false ↦ [] ]

abbrev pub seen_in_learn_run : PlanOf → Run → List Observation
seen_in_learn_run plan run =
    elim (is_live run.mode) [ true ↦ [] | false ↦ seen_in_run (plain_run plan.image run.input plan.budget) ]

-- the invariants learned of the learn runs of a plan
abbrev pub inferred : PlanOf → List Invariant
inferred plan = learned plan.image (flat_map (seen_in_learn_run plan) (runs plan))

abbrev pub infer_lines : List Invariant → List ℕ
infer_lines invariants =
    flat_map (λ (k : Invariant). line (invariant_text k)) invariants ++ line (codes "learned " ++ decimal (length invariants))

abbrev pub infer_text : PlanOf → List ℕ
infer_text plan = infer_lines (inferred plan)

abbrev pub is_failed : End → Bool
is_failed (Failure id detail) = true
is_failed _ = false

abbrev pub is_budget : End → Bool
is_budget Budget = true
is_budget _ = false

abbrev pub ends_with : (End → Bool) → List Entry → ℕ
ends_with test entries = length (filter (λ (e : Entry). test e.end) entries)

abbrev pub is_withdrawal : Change → Bool
is_withdrawal change = is_some change.withdrawn

abbrev pub drill_line : PlanOf → List Entry → Ledger → List ℕ
drill_line plan past l =
    codes "runs " ++ decimal (length past) ++ codes " exits " ++ decimal (ends_with is_exit past)
    ++ codes " failures " ++ decimal (ends_with is_failed past) ++ codes " budgets " ++ decimal (ends_with is_budget past)
    ++ codes " cases " ++ decimal (length (cases plan l.seen)) ++ codes " versions " ++ decimal (length l.versions)
    ++ codes " withdrawals " ++ decimal (length (filter is_withdrawal (changes plan l.seen)))

abbrev pub drill_text : PlanOf → List Entry → List ℕ
drill_text plan past = line (drill_line plan past (ledger plan past))
