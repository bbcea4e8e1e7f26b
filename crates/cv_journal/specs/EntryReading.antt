-- An entry, read from its line (docs/FORMATS.md, "Reading a report").
use Rattle.std.specs.Prelude.{ℕ, Bool, true, false, ◌==◌, if◌then◌else◌, List, [], ◌∷◌, codes, Option, Some, None, option_map, option_and_then, bytes_eq}
use Rattle.cv_base.specs.EndText.{kind_text}
use Rattle.cv_base.specs.declared.ends.CrashCause.TheVariants.{IllegalInstruction, Break, Deep, Misaligned, Unreadable, Code, Unwritable}
use Rattle.cv_base.specs.declared.ends.End.{End}
use Rattle.cv_base.specs.declared.ends.End.TheVariants.{Exit, Failure, Budget}
use Rattle.cv_base.specs.declared.ends.FailureKind.{FailureKind}
use Rattle.cv_base.specs.declared.ends.FailureKind.TheVariants.{IllegalTransfer, HeapGuard, ShadowStack, Crash}
use Rattle.cv_base.specs.declared.entries.Adopted.{Adopted}
use Rattle.cv_base.specs.declared.entries.Entry.{Entry}
use Rattle.cv_base.specs.declared.entries.FiredRow.{FiredRow}
use Rattle.cv_base.specs.declared.entries.TallyRow.{TallyRow}
use Rattle.cv_base.specs.declared.plan.Mode.{Mode}
use Rattle.cv_base.specs.declared.plan.Mode.TheVariants.{Learn, Live}
use Rattle.cv_histories.specs.Texts.{held_text, mode_text}
use Rattle.cv_journal.specs.Reading.{address_in, behind, bytes_in, cut, list_in, named_in, number_in, only_where, pair_in}

-- ---- rows and ends

-- VERSION:ENTRIES
unfoldable pub adopted_in : List ℕ → Option Adopted
adopted_in s = option_map (λ (p : ℕ × ℕ). record { version = p.0; entries = p.1 }) (pair_in 58 number_in number_in s)

unfoldable pub held_in : List ℕ → Option Bool
held_in s = named_in held_text (true ∷ false ∷ []) s

abbrev pub tally_with : ℕ × (ℕ × (ℕ × (ℕ × Bool))) → TallyRow
tally_with p = record { case = p.0; index = p.1.0; checks = p.1.1.0; violations = p.1.1.1.0; last_held = p.1.1.1.1 }

-- CASE.INDEX:CHECKS:VIOLATIONS:LAST
unfoldable pub tally_in : List ℕ → Option TallyRow
tally_in s =
    option_map tally_with (pair_in 46 number_in (pair_in 58 number_in (pair_in 58 number_in (pair_in 58 number_in held_in))) s)

abbrev pub fired_with : ℕ × (ℕ × ℕ) → FiredRow
fired_with p = record { case = p.0; index = p.1.0; count = p.1.1 }

-- CASE.INDEX:COUNT
unfoldable pub fired_in : List ℕ → Option FiredRow
fired_in s = option_map fired_with (pair_in 46 number_in (pair_in 58 number_in number_in) s)

unfoldable pub mode_in : List ℕ → Option Mode
mode_in s = named_in mode_text (Learn ∷ Live ∷ []) s

abbrev pub all_kinds : List FailureKind
all_kinds =
    IllegalTransfer ∷ HeapGuard ∷ ShadowStack ∷ Crash IllegalInstruction ∷ Crash Break ∷ Crash Deep ∷ Crash Misaligned ∷ Crash Unreadable
    ∷ Crash Code ∷ Crash Unwritable ∷ []

unfoldable pub kind_in : List ℕ → Option FailureKind
kind_in s = named_in kind_text all_kinds s

abbrev pub failure_with : FailureKind × (ℕ × ℕ) → End
failure_with p = Failure (record { kind = p.0; pc = p.1.0 }) p.1.1

-- KIND:PC:DETAIL
unfoldable pub failure_in : List ℕ → Option End
failure_in s = option_map failure_with (pair_in 58 kind_in (pair_in 58 address_in address_in) s)

-- what stands behind `exit:`, else behind `failure:`
abbrev pub exit_or_failure : Option (List ℕ) → Option (List ℕ) → Option End
exit_or_failure (Some code) told = option_map (λ n. Exit n) (number_in code)
exit_or_failure None told = option_and_then failure_in told

unfoldable pub end_in : List ℕ → Option End
end_in s =
    if bytes_eq s (codes "budget") then Some Budget else exit_or_failure (behind (codes "exit:") s) (behind (codes "failure:") s)

-- ---- the line

-- the eleven values of a line, as they are written
pub record ValuesOf : Type 0 where
  pub number : List ℕ
  pub run : List ℕ
  pub worker : List ℕ
  pub mode : List ℕ
  pub adopted : List ℕ
  pub end : List ℕ
  pub turns : List ℕ
  pub sites : List ℕ
  pub output : List ℕ
  pub tally : List ℕ
  pub fired : List ℕ

-- the value behind a word, up to the next blank, and what follows that
unfoldable pub value_in : List ℕ → List ℕ → Option (List ℕ × List ℕ)
value_in word s = option_and_then (cut 32) (behind word s)

-- a value and then the rest of the line
abbrev pub after_value : {A : Type 0} → List ℕ → List ℕ → (List ℕ → List ℕ → Option A) → Option A
after_value word s next = option_and_then (λ (p : List ℕ × List ℕ). next p.0 p.1) (value_in word s)

-- words and values, joined by blanks; the last value is what is left
unfoldable pub values_in : List ℕ → Option ValuesOf
values_in line =
    after_value (codes "entry ") line (λ number after_number.
    after_value (codes "run ") after_number (λ run after_run.
    after_value (codes "worker ") after_run (λ worker after_worker.
    after_value (codes "mode ") after_worker (λ mode after_mode.
    after_value (codes "adopted ") after_mode (λ adopted after_adopted.
    after_value (codes "end ") after_adopted (λ end after_end.
    after_value (codes "turns ") after_end (λ turns after_turns.
    after_value (codes "sites ") after_turns (λ sites after_sites.
    after_value (codes "output ") after_sites (λ output after_output.
    after_value (codes "tally ") after_output (λ tally after_tally.
    option_map
    (λ (fired : List ℕ). record { number = number; run = run; worker = worker; mode = mode; adopted = adopted; end = end; turns = turns; sites = sites; output = output; tally = tally; fired = fired })
    (behind (codes "fired ") after_tally)))))))))))

abbrev pub is_number : ℕ → Option ℕ → Bool
is_number n None = false
is_number n (Some m) = m == n

abbrev pub entry_with : Option ℕ → Option ℕ → Option Mode → Option End → Option ℕ → Option (List Adopted) → Option (List ℕ) → Option (List ℕ) → Option (List TallyRow) → Option (List FiredRow) → Option Entry
entry_with (Some run) (Some worker) (Some mode) (Some end) (Some turns) (Some adopted) (Some sites) (Some output) (Some tally) (Some fired) =
    Some (record { run = run; worker = worker; mode = mode; adopted = adopted; end = end; turns = turns; sites = sites; output = output; tally = tally; fired = fired })
entry_with _ _ _ _ _ _ _ _ _ _ = None

unfoldable pub entry_of : ℕ → ValuesOf → Option Entry
entry_of number v =
    only_where (is_number number (number_in v.number))
    (entry_with (number_in v.run) (number_in v.worker) (mode_in v.mode) (end_in v.end) (number_in v.turns) (list_in adopted_in v.adopted) (list_in address_in v.sites) (bytes_in v.output) (list_in tally_in v.tally) (list_in fired_in v.fired))

-- the entry whose line this is, under a number
unfoldable pub entry_in : ℕ → List ℕ → Option Entry
entry_in number line = option_and_then (entry_of number) (values_in line)
