-- Parts of a report, in the order in which they are written, and of the line of `drill`
-- (docs/FORMATS.md, "Report", "Texts of the commands").
use Rattle.std.specs.Prelude.{ℕ, ℤ, ◌≡◌, ◌+◌, List, [], ◌∷◌, ◌++◌, length, map, codes, Option, Some}
use Rattle.std.specs.Fmt.{decimal, signed_decimal}
use Rattle.cv_base.specs.declared.cases.Case.{Case}
use Rattle.cv_base.specs.declared.cases.Change.{Change}
use Rattle.cv_base.specs.declared.cases.Class.{Class}
use Rattle.cv_base.specs.declared.cases.Repair.{Repair}
use Rattle.cv_base.specs.declared.entries.Entry.{Entry}
use Rattle.cv_base.specs.declared.invariants.Invariant.{Invariant}
use Rattle.cv_base.specs.EndText.{end_text, kind_text}
use Rattle.cv_base.specs.InvariantText.{invariant_text, list_text}
use Rattle.cv_base.specs.Text.{address_text}
use Rattle.cv_histories.specs.OtherTexts.{ends_with, is_budget, is_failed}
use Rattle.cv_histories.specs.Report.{candidate_lines, case_line, change_text, entry_line, line, maker_text, repair_lines, withdrawn_text}
use Rattle.cv_histories.specs.Repairs.{repairs_of}
use Rattle.cv_histories.specs.Scores.{fails, score, wins}
use Rattle.cv_histories.specs.Seen.{Seen, is_exit}
use Rattle.cv_histories.specs.Texts.{action_text, adopted_text, class_text, fired_text, mode_text, tally_text}
use Rattle.cv_manager.specs.ManagerOf.{ManagerOf, case_in, seen_in}
use Rattle.cv_runs.specs.PlainText.{bytes_text}

-- ---- entries

-- which run an entry tells of
abbrev pub run_text : ℕ → Entry → List ℕ
run_text i e =
    codes "entry " ++ decimal i ++ codes " run " ++ decimal e.run ++ codes " worker " ++ decimal e.worker ++ codes " mode " ++ mode_text e.mode

-- how it went
abbrev pub course_text : Entry → List ℕ
course_text e =
    codes " adopted " ++ list_text (map adopted_text e.adopted) ++ codes " end " ++ end_text e.end ++ codes " turns " ++ decimal e.turns
    ++ codes " sites " ++ list_text (map address_text e.sites)

-- what it left
abbrev pub outcome_text : Entry → List ℕ
outcome_text e =
    codes " output " ++ bytes_text e.output ++ codes " tally " ++ list_text (map tally_text e.tally)
    ++ codes " fired " ++ list_text (map fired_text e.fired)

-- the lines of a list whose first element has the number i
abbrev pub numbered : {A : Type 0} → (ℕ → A → List ℕ) → ℕ → List A → List ℕ
numbered line_of i [] = []
numbered line_of i (x ∷ xs) = line_of i x ++ numbered line_of (i + 1) xs

-- the lines of entries, the oldest first
abbrev pub entry_lines_from : ℕ → List Entry → List ℕ
entry_lines_from i entries = numbered (λ (i : ℕ) (e : Entry). line (entry_line i e)) i entries

-- ---- cases

-- c is the number of the case
abbrev pub IsCase : ManagerOf → ℕ → Case → Type 0
IsCase m c case = case_in m c ≡ Some case

abbrev pub failure_text : ℕ → Case → List ℕ
failure_text c case =
    codes "case " ++ decimal c ++ codes " " ++ kind_text case.id.kind ++ codes " " ++ address_text case.id.pc ++ codes " opened " ++ decimal case.opened

abbrev pub candidate_line : ℕ → ℕ → Invariant → Option Class → List ℕ
candidate_line c x k class =
    codes "candidate " ++ decimal c ++ codes "." ++ decimal x ++ codes " " ++ invariant_text k ++ codes " class " ++ class_text class

abbrev pub repair_text : ℕ → ℕ → Repair → List ℕ
repair_text c j r =
    codes "repair " ++ decimal c ++ codes "." ++ decimal j ++ codes " candidate " ++ decimal r.candidate ++ codes " " ++ action_text r.action

abbrev pub score_text : ℕ → ℕ → ℤ → List ℕ
score_text wins fails score = codes " wins " ++ decimal wins ++ codes " fails " ++ decimal fails ++ codes " score " ++ signed_decimal score

abbrev pub repair_line : ℕ → Case → List Seen → ℕ → Repair → List ℕ
repair_line c case seen j r =
    repair_text c j r ++ codes " wins " ++ decimal (wins c j seen) ++ codes " fails " ++ decimal (fails c case j seen)
    ++ codes " score " ++ signed_decimal (score c case j seen)

-- the lines of case number c of a manager
abbrev pub lines_of_case : ManagerOf → ℕ → Case → List ℕ
lines_of_case m c case =
    line (case_line m.plan c case (seen_in m)) ++ candidate_lines m.plan c case (seen_in m) 0 case.candidates
    ++ repair_lines c case (seen_in m) 0 (repairs_of m.plan c case (seen_in m))

-- ---- versions and changes

abbrev pub version_line : ℕ → Option ℕ → ℕ → List ℕ
version_line v maker patches =
    codes "version " ++ decimal v ++ codes " entry " ++ maker_text maker ++ codes " patches " ++ decimal patches

abbrev pub lines_of_change : Change → List ℕ
lines_of_change change =
    withdrawn_text change.entry change.case change.withdrawn ++ change_text (codes "install") change.entry change.case change.installed

-- ---- the line of `drill`

-- how many entries there are, and how many ended in each way
abbrev pub ends_text : List Entry → List ℕ
ends_text entries =
    codes "runs " ++ decimal (length entries) ++ codes " exits " ++ decimal (ends_with is_exit entries)
    ++ codes " failures " ++ decimal (ends_with is_failed entries) ++ codes " budgets " ++ decimal (ends_with is_budget entries)
