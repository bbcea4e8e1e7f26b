-- Which lines are lines of entries (docs/FORMATS.md, "Reading a report").
use Rattle.std.specs.Prelude.{◌≡◌, ℕ, ◌<◌, ◌^◌, List}
use Rattle.std.specs.List.{AllByRecursion}
use Rattle.cv_base.specs.declared.ends.End.{End}
use Rattle.cv_base.specs.declared.ends.End.TheVariants.{Exit, Failure, Budget}
use Rattle.cv_base.specs.declared.entries.Adopted.{Adopted}
use Rattle.cv_base.specs.declared.entries.Entry.{Entry}
use Rattle.cv_base.specs.declared.entries.FiredRow.{FiredRow}
use Rattle.cv_base.specs.declared.entries.TallyRow.{TallyRow}
use Rattle.cv_histories.specs.Report.{entry_line}

-- a number in 32 bits
abbrev pub IsWord : ℕ → Type 0
IsWord n = n < 2 ^ 32

abbrev pub IsByte : ℕ → Type 0
IsByte n = n < 256

abbrev pub IsAdopted : Adopted → Type 0
IsAdopted a = IsWord a.version × IsWord a.entries

abbrev pub IsTally : TallyRow → Type 0
IsTally r = IsWord r.case × IsWord r.index × IsWord r.checks × IsWord r.violations

abbrev pub IsFired : FiredRow → Type 0
IsFired r = IsWord r.case × IsWord r.index × IsWord r.count

abbrev pub IsEnd : End → Type 0
IsEnd (Exit code) = IsWord code
IsEnd (Failure id detail) = IsWord id.pc × IsWord detail
IsEnd Budget = Unit {0}

-- an entry whose numbers are in 32 bits, and whose output is bytes
pub record IsEntry (e : Entry) : Type 0 where
  pub run : IsWord e.run
  pub worker : IsWord e.worker
  pub adopted : AllByRecursion IsAdopted e.adopted
  pub end : IsEnd e.end
  pub turns : IsWord e.turns
  pub sites : AllByRecursion IsWord e.sites
  pub output : AllByRecursion IsByte e.output
  pub tally : AllByRecursion IsTally e.tally
  pub fired : AllByRecursion IsFired e.fired

-- the line of an entry under a number, without its line feed
abbrev pub IsLineOf : ℕ → List ℕ → Entry → Type 0
IsLineOf number line e = IsEntry e × (line ≡ entry_line number e)
