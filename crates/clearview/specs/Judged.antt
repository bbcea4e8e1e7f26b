-- What `audit` finds of a report, and how it says so (docs/REPAIR.md, "Audit", and docs/FORMATS.md,
-- "Texts of the commands").
use Rattle.std.specs.Prelude.{ℕ, Bool, if◌then◌else◌, List, [], ◌++◌, codes, reverse, Option, Some, None, Result, Ok, Err}
use Rattle.std.specs.Fmt.{decimal}
use Rattle.std.specs.Str.{bytes_eq}
use Rattle.cv_audit.specs.Judged.{IsLeast, IsWrong}
use Rattle.cv_base.specs.declared.entries.Entry.{Entry}
use Rattle.cv_base.specs.PlanOf.{PlanOf}
use Rattle.cv_histories.specs.Legal.{IsLegal, IsWhole}
use Rattle.cv_histories.specs.Report.{line, report}
use Rattle.clearview.specs.declared.judgement.Judgement.{Judgement}
use Rattle.clearview.specs.declared.judgement.Judgement.TheVariants.{Sound, Wrong, Missing}

-- it is so of these entries, the oldest first
abbrev pub IsJudged : PlanOf → List Entry → Judgement → Type 0
IsJudged plan entries Sound = IsLegal plan (reverse entries) × IsWhole plan (reverse entries)
IsJudged plan entries (Wrong at clause) = IsWrong plan entries at clause
IsJudged plan entries (Missing run) = IsLegal plan (reverse entries) × IsLeast plan (reverse entries) run

-- whether a text is that of the report of its entries
abbrev pub same_line : Bool → List ℕ
same_line same = if same then line (codes "text same") else line (codes "text differs")

abbrev pub judgement_text : PlanOf → List ℕ → List Entry → Judgement → List ℕ
judgement_text plan text entries Sound = line (codes "sound") ++ same_line (bytes_eq text (report plan (reverse entries)))
judgement_text plan text entries (Wrong at clause) = codes "wrong entry " ++ decimal at ++ codes " clause " ++ decimal clause ++ codes "\n"
judgement_text plan text entries (Missing run) = codes "missing run " ++ decimal run ++ codes "\n"

-- what is written of a report's text and its entries
abbrev pub judged_text : PlanOf → List ℕ → List Entry → Option Judgement → List ℕ
judged_text plan text entries None = []
judged_text plan text entries (Some said) = judgement_text plan text entries said

-- it is so of the report and the job that files hold
abbrev pub IsJudgedIn : {C : Type 0} → Result PlanOf C → Result (List ℕ × List Entry) C → Judgement → Type 0
IsJudgedIn (Ok plan) (Ok report) said = IsJudged plan report.1 said
IsJudgedIn _ _ said = ⊥
