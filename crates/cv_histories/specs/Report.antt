-- The report of a plan and a history, whose newest entry is first (docs/FORMATS.md, "Report").
use Rattle.std.specs.Prelude.{ℕ, true, false, ◌==◌, ◌+◌, min, if◌then◌else◌, List, [], ◌∷◌, ◌++◌, length, map, codes, Option, Some, None}
use Rattle.std.specs.Fmt.{decimal, signed_decimal}
use Rattle.std.specs.List.{flat_map}
use Rattle.cv_base.specs.InvariantText.{invariant_text, list_text}
use Rattle.cv_base.specs.declared.cases.Case.{Case}
use Rattle.cv_base.specs.declared.cases.Change.{Change}
use Rattle.cv_base.specs.declared.cases.Repair.{Repair}
use Rattle.cv_base.specs.declared.entries.Entry.{Entry}
use Rattle.cv_base.specs.declared.invariants.Invariant.{Invariant}
use Rattle.cv_base.specs.EndText.{end_text, kind_text}
use Rattle.cv_base.specs.PlanOf.{PlanOf}
use Rattle.cv_base.specs.PlanText.{job_line}
use Rattle.cv_base.specs.Text.{address_text}
use Rattle.cv_runs.specs.PatchedRun.{Table}
use Rattle.cv_runs.specs.PlainText.{bytes_text}
use Rattle.cv_histories.specs.Cases.{cases}
use Rattle.cv_histories.specs.Classes.{checked_failures, class_of}
use Rattle.cv_histories.specs.Installed.{changes, installed, is_dropped}
use Rattle.cv_histories.specs.Repairs.{repairs_of}
use Rattle.cv_histories.specs.Scores.{fails, score, wins}
use Rattle.cv_histories.specs.Seen.{Seen, learned_of}
use Rattle.cv_histories.specs.Texts.{action_text, adopted_text, class_text, fired_text, mode_text, tally_text}
use Rattle.cv_histories.specs.Versions.{Ledger, ledger}

abbrev pub line : List ℕ → List ℕ
line text = text ++ codes "\n"

abbrev pub entry_line : ℕ → Entry → List ℕ
entry_line i e =
    codes "entry " ++ decimal i ++ codes " run " ++ decimal e.run ++ codes " worker " ++ decimal e.worker ++ codes " mode " ++ mode_text e.mode
    ++ codes " adopted " ++ list_text (map adopted_text e.adopted) ++ codes " end " ++ end_text e.end ++ codes " turns " ++ decimal e.turns
    ++ codes " sites " ++ list_text (map address_text e.sites) ++ codes " output " ++ bytes_text e.output
    ++ codes " tally " ++ list_text (map tally_text e.tally) ++ codes " fired " ++ list_text (map fired_text e.fired)

-- the lines of the entries; the newest comes last
abbrev pub entry_lines : List Entry → List ℕ
entry_lines [] = []
entry_lines (e ∷ past) = entry_lines past ++ line (entry_line (length past) e)

-- by which entry each version was made; version 0 by none
abbrev pub makers_with : ℕ → ℕ → ℕ → List (Option ℕ) → List (Option ℕ)
makers_with before now entry makers = if before == now then makers else makers ++ Some entry ∷ []

abbrev pub makers : PlanOf → List Entry → List (Option ℕ)
makers plan [] = None ∷ []
makers plan (e ∷ past) =
    makers_with (length ((ledger plan past).versions)) (length ((ledger plan (e ∷ past)).versions)) (length past) (makers plan past)

abbrev pub maker_text : Option ℕ → List ℕ
maker_text None = codes "-"
maker_text (Some entry) = decimal entry

abbrev pub version_lines : ℕ → List (Option ℕ) → List Table → List ℕ
version_lines v (m ∷ ms) (t ∷ ts) =
    line (codes "version " ++ decimal v ++ codes " entry " ++ maker_text m ++ codes " patches " ++ decimal (length t)) ++ version_lines (v + 1) ms ts
version_lines v _ _ = []

abbrev pub installed_text : Option ℕ → List ℕ
installed_text None = codes "checking"
installed_text (Some j) = codes "installed:" ++ decimal j

abbrev pub state_text : PlanOf → ℕ → Case → List Seen → List ℕ
state_text plan c case seen =
    elim (is_dropped plan c case seen) [ true ↦ codes "dropped" | false ↦ installed_text (installed plan c case seen) ]

abbrev pub case_line : PlanOf → ℕ → Case → List Seen → List ℕ
case_line plan c case seen =
    codes "case " ++ decimal c ++ codes " " ++ kind_text case.id.kind ++ codes " " ++ address_text case.id.pc ++ codes " opened " ++ decimal case.opened
    ++ codes " checked " ++ decimal (min plan.checks (length (checked_failures c case seen))) ++ codes " state " ++ state_text plan c case seen

abbrev pub candidate_lines : PlanOf → ℕ → Case → List Seen → ℕ → List Invariant → List ℕ
candidate_lines plan c case seen x [] = []
candidate_lines plan c case seen x (k ∷ ks) =
    line (codes "candidate " ++ decimal c ++ codes "." ++ decimal x ++ codes " " ++ invariant_text k ++ codes " class " ++ class_text (class_of plan c case x seen))
    ++ candidate_lines plan c case seen (x + 1) ks

abbrev pub repair_lines : ℕ → Case → List Seen → ℕ → List Repair → List ℕ
repair_lines c case seen j [] = []
repair_lines c case seen j (r ∷ rs) =
    line (codes "repair " ++ decimal c ++ codes "." ++ decimal j ++ codes " candidate " ++ decimal r.candidate ++ codes " " ++ action_text r.action
    ++ codes " wins " ++ decimal (wins c j seen) ++ codes " fails " ++ decimal (fails c case j seen) ++ codes " score " ++ signed_decimal (score c case j seen))
    ++ repair_lines c case seen (j + 1) rs

abbrev pub case_lines : PlanOf → List Seen → ℕ → List Case → List ℕ
case_lines plan seen c [] = []
case_lines plan seen c (case ∷ rest) =
    line (case_line plan c case seen) ++ candidate_lines plan c case seen 0 case.candidates
    ++ repair_lines c case seen 0 (repairs_of plan c case seen) ++ case_lines plan seen (c + 1) rest

abbrev pub change_text : List ℕ → ℕ → ℕ → ℕ → List ℕ
change_text word entry c j = line (word ++ codes " entry " ++ decimal entry ++ codes " case " ++ decimal c ++ codes " repair " ++ decimal j)

abbrev pub withdrawn_text : ℕ → ℕ → Option ℕ → List ℕ
withdrawn_text entry c None = []
withdrawn_text entry c (Some j) = change_text (codes "withdraw") entry c j

abbrev pub change_lines : List Change → List ℕ
change_lines changes =
    flat_map (λ (change : Change). withdrawn_text change.entry change.case change.withdrawn ++ change_text (codes "install") change.entry change.case change.installed) changes

abbrev pub report_of : PlanOf → List Entry → Ledger → List ℕ
report_of plan past l =
    line (codes "clearview report 2") ++ line (job_line plan) ++ entry_lines past ++ version_lines 0 (makers plan past) l.versions
    ++ case_lines plan l.seen 0 (cases plan l.seen) ++ change_lines (changes plan l.seen)
    ++ line (codes "learned " ++ decimal (length (learned_of plan l.seen))) ++ line (codes "end")

abbrev pub report : PlanOf → List Entry → List ℕ
report plan past = report_of plan past (ledger plan past)
