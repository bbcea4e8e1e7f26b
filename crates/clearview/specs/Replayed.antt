-- What `replay` shows of a turn of a posted run (docs/FORMATS.md, "Texts of the commands", and
-- docs/REPAIR.md, "Replay").
use Rattle.std.specs.Prelude.{ℕ, ◌==◌, List, [], ◌++◌, codes, length, map, reverse, Option, Some, None}
use Rattle.std.specs.Fmt.{decimal}
use Rattle.std.specs.List.{find, range_with_len}
use Rattle.cv_base.specs.declared.entries.Entry.{Entry}
use Rattle.cv_base.specs.InvariantText.{list_text}
use Rattle.cv_base.specs.PlanOf.{PlanOf}
use Rattle.cv_base.specs.Text.{address_text}
use Rattle.cv_histories.specs.Report.{line, maker_text}
use Rattle.cv_histories.specs.Versions.{ledger}
use Rattle.cv_replay.specs.ReplayOf.{ReplayOf, register, said, since}
use Rattle.cv_replay.specs.Said.{state_before}
use Rattle.cv_runs.specs.State.{State, pc_of, x}
use Rattle.cv_shadow.specs.Frames.{frame_sp}
use Rattle.clearview.specs.declared.judgement.Judgement.{Judgement}
use Rattle.clearview.specs.declared.judgement.Judgement.TheVariants.{Sound, Wrong, Missing}
use Rattle.clearview.specs.Judged.{judgement_text}

-- the entry of a run
abbrev pub entry_for : List Entry → ℕ → Option Entry
entry_for entries run = find (λ (e : Entry). e.run == run) entries

-- the run of an entry of a history, whose newest entry is first, stood before a turn
abbrev pub stood : PlanOf → List Entry → Entry → ℕ → ReplayOf
stood plan past e turn = record { plan = plan; versions = (ledger plan past).versions; entry = e; turn = turn }

-- ---- the three lines of a turn

-- where the machine stands
abbrev pub place_text : State → List ℕ
place_text s = codes "pc " ++ address_text (pc_of s) ++ codes " frames " ++ decimal (length s.core.frames) ++ codes " frame-sp " ++ address_text (frame_sp s.core.frames)

abbrev pub turn_text : ℕ → ℕ → List ℕ
turn_text run turn = codes "run " ++ decimal run ++ codes " turn " ++ decimal turn

abbrev pub turn_line : ℕ → ℕ → State → List ℕ
turn_line run turn s = line (turn_text run turn ++ codes " " ++ place_text s)

-- the registers x1 to x31
abbrev pub numbers : List ℕ
numbers = range_with_len 1 31

abbrev pub regs_line : State → List ℕ
regs_line s = line (codes "regs " ++ list_text (map address_text (map (x s) numbers)))

-- since which turn each of them has its value
abbrev pub since_line : ReplayOf → List ℕ
since_line r = line (codes "since " ++ list_text (map maker_text (map (λ n. since (register n) r) numbers)))

-- ---- the text

abbrev pub state_lines : ReplayOf → Option State → List ℕ
state_lines r None = line (codes "no such turn")
state_lines r (Some s) = turn_line r.entry.run r.turn s ++ regs_line s ++ since_line r

-- before the turn that a replay stands before; it opens only where it is asked to
unfoldable pub lines_of : ReplayOf → List ℕ
lines_of r = state_lines r (state_before (said r) r.turn)

abbrev pub lines_for : PlanOf → List Entry → ℕ → Option Entry → List ℕ
lines_for plan past turn None = line (codes "no such run")
lines_for plan past turn (Some e) = lines_of (stood plan past e turn)

-- of sound entries, the oldest first
unfoldable pub run_text : PlanOf → List Entry → ℕ → ℕ → List ℕ
run_text plan entries run turn = lines_for plan (reverse entries) turn (entry_for entries run)

-- other entries are said to be so, as by an audit
abbrev pub said_text : PlanOf → List Entry → ℕ → ℕ → Judgement → List ℕ
said_text plan entries run turn Sound = run_text plan entries run turn
said_text plan entries run turn (Wrong at clause) = judgement_text plan [] entries (Wrong at clause)
said_text plan entries run turn (Missing number) = judgement_text plan [] entries (Missing number)

abbrev pub replayed_text : PlanOf → List Entry → ℕ → ℕ → Option Judgement → List ℕ
replayed_text plan entries run turn None = []
replayed_text plan entries run turn (Some judged) = said_text plan entries run turn judged
