-- What a live run keeps beside its machine: what it has adopted, where its blocks begin, and what its
-- patches noted (docs/REPAIR.md, "Patched runs").
use Rattle.std.specs.Prelude.{◌≡◌, ◌≤◌, ℕ, Bool, true, false, not, ◌&&◌, ◌==◌, ◌-◌, if◌then◌else◌, List, [], length, Option, Some, None, slice_get, IsSome}
use Rattle.cv_base.specs.Picture.{Picture, is_point}
use Rattle.cv_base.specs.Points.{Range}
use Rattle.cv_exec.specs.LiveRun.{Span, one_entry_more, rows_of}
use Rattle.cv_exec.specs.declared.patched.Patched.{Patched}
use Rattle.cv_histories.specs.Honest.{IsJoined}
use Rattle.cv_histories.specs.Legal.{NeverFalls}
use Rattle.cv_histories.specs.Rows.{CheckNote, FiredNote, checks_in, firings_in}
use Rattle.cv_machine.specs.Answers.{left_by}
use Rattle.cv_machine.specs.Held.{Held, state_of}
use Rattle.cv_patch.specs.Counts.{CountsChecks, CountsFirings, FiredGoesOn, TallyGoesOn, fired_ready, fired_up_to, tally_ready, tally_up_to}
use Rattle.cv_runs.specs.Apply.{Left, apply}
use Rattle.cv_runs.specs.BlockEntries.{is_entry, since_next}
use Rattle.cv_runs.specs.PatchedRun.{PatchedStep, PatchedTurn, Table, notes_of, patched_turn, with_core}
use Rattle.cv_runs.specs.State.{State, Outcome, Next, Ended}

-- where the words of an image's text lie
abbrev pub range_of : Picture → Range
range_of image = record { base = image.text_base; count = length image.words }

-- what was adopted last
abbrev pub last_span : List Span → Option Span
last_span spans = slice_get spans (length spans - 1)

-- its table
abbrev pub table_in : Option Span → Table
table_in None = []
table_in (Some s) = s.table

abbrev pub last_table : List Span → Table
last_table spans = table_in (last_span spans)

-- the table of an index; one without a patch has none
abbrev pub indexed_table : Option Table → Table
indexed_table None = []
indexed_table (Some table) = table

-- whether it has this version, and its table where it has
abbrev pub is_of_version : ℕ → Option Span → Bool
is_of_version version None = false
is_of_version version (Some s) = s.version == version

abbrev pub table_if : ℕ → Option Span → Option Table
table_if version None = None
table_if version (Some s) = if s.version == version then Some s.table else None

-- a version is not below its version
abbrev pub IsNotBelow : ℕ → Option Span → Type 0
IsNotBelow version None = Unit {0}
IsNotBelow version (Some s) = s.version ≤ version

-- the next turn is a block entry that has no table yet
abbrev pub wants_by : Patched → Bool
wants_by p = p.enters && not p.entered

-- nothing was adopted yet, and the first turn is a block entry
pub record IsFresh (text : Range) (p : Patched) : Type 0 where
  pub text_is : p.text ≡ text
  pub rule : p.rule ≡ Some 1
  pub enters : p.enters ≡ true
  pub entered : p.entered ≡ false
  pub spans : p.spans.items ≡ []
  pub prepared : p.prepared ≡ false
  pub tally : p.tally ≡ []
  pub fired : p.fired ≡ []

-- each patch of the last table has its row, and the index is of that table
pub record IsReady (p : Patched) : Type 0 where
  pub index : indexed_table p.index ≡ last_table p.spans.items
  pub tally : tally_ready (last_table p.spans.items) p.tally ≡ true
  pub fired : fired_ready (last_table p.spans.items) p.fired ≡ true

-- no count is above n
pub record IsUpTo (n : ℕ) (p : Patched) : Type 0 where
  pub tally : tally_up_to n p.tally ≡ true
  pub fired : fired_up_to n p.fired ≡ true

-- the rows count what they counted, and rise no higher
pub record KeepsCounts (old new : Patched) : Type 0 where
  pub checks : (checks : List CheckNote) → CountsChecks old.tally checks → CountsChecks new.tally checks
  pub firings : (firings : List FiredNote) → CountsFirings old.fired firings → CountsFirings new.fired firings
  pub up_to : (n : ℕ) → IsUpTo n old → IsUpTo n new

-- one is a copy of the other
pub record IsCopy (old new : Patched) : Type 0 where
  pub rest : new ≡ record old { spans = new.spans }
  pub spans : new.spans.items ≡ old.spans.items

-- a block entry adopted a version with its table
pub record IsEntered (version : ℕ) (table : Table) (old new : Patched) : Type 0 where
  pub text : new.text ≡ old.text
  pub rule : new.rule ≡ old.rule
  pub enters : new.enters ≡ old.enters
  pub entered : new.entered ≡ true
  pub spans : new.spans.items ≡ one_entry_more version table old.spans.items
  pub prepared : new.prepared ≡ true
  pub ready : IsReady new
  pub counts : KeepsCounts old new

-- it was refused memory, and all stays but rows that count nothing
pub record IsRefused (old new : Patched) : Type 0 where
  pub text : new.text ≡ old.text
  pub rule : new.rule ≡ old.rule
  pub enters : new.enters ≡ old.enters
  pub entered : new.entered ≡ old.entered
  pub spans : new.spans.items ≡ old.spans.items
  pub ready : new.prepared ≡ true → IsReady new
  pub counts : KeepsCounts old new

-- what the patches of a table leave of the core of a state, and the state behind them
abbrev pub patches_left : Picture → Table → State → Left
patches_left image table s = apply (is_point image) s.core.pc table s.core

abbrev pub patched_state : Picture → Table → State → State
patched_state image table s = with_core s (patches_left image table s).core

-- the state behind a patched turn: one that ends the run changes nothing but what its patches did
abbrev pub turned_state : Picture → Table → State → State
turned_state image table s = left_by (patched_turn image table s).outcome (patched_state image table s)

-- the patched turn that comes, what its patches leave, and the state behind it
abbrev pub turn_now : Patched → Held → PatchedTurn
turn_now p m = patched_turn m.image (last_table p.spans.items) (state_of m)

abbrev pub left_now : Patched → Held → Left
left_now p m = patches_left m.image (last_table p.spans.items) (state_of m)

abbrev pub state_then : Patched → Held → State
state_then p m = turned_state m.image (last_table p.spans.items) (state_of m)

-- some table was adopted, for whose patches there are rows with room
pub record MayTurn (p : Patched) (m : Held) : Type 0 where
  pub text : p.text ≡ range_of m.image
  pub point : is_point m.image m.core.pc ≡ true
  pub some : IsSome (last_span p.spans.items)
  pub ready : IsReady p
  pub room : IsUpTo 4294967294 p

-- the notes of one turn more are counted, and all else stays but where blocks begin
pub record IsNoted (turn : PatchedTurn) (old new : Patched) : Type 0 where
  pub text : new.text ≡ old.text
  pub spans : new.spans ≡ old.spans
  pub prepared : new.prepared ≡ old.prepared
  pub index : new.index ≡ old.index
  pub tally : TallyGoesOn (last_table old.spans.items) old.tally new.tally (checks_in turn.notes)
  pub fired : FiredGoesOn (last_table old.spans.items) old.fired new.fired (firings_in turn.notes)

abbrev pub is_transfer_in : Outcome → Bool
is_transfer_in (Next s transfer) = transfer
is_transfer_in (Ended end) = false

-- whether the next turn is a block entry, after one that was a transfer or not
pub record EntersAfter (transfer : Bool) (old new : Patched) : Type 0 where
  pub enters : new.enters ≡ is_entry old.rule transfer
  pub rule : new.rule ≡ since_next new.enters old.rule
  pub entered : new.entered ≡ false

-- what a live run has adopted, and that its notes are counted, after the steps `done`
pub record IsKept (done : List PatchedStep) (p : Patched) : Type 0 where
  pub joined : IsJoined (rows_of p.spans.items)
  pub rises : NeverFalls (rows_of p.spans.items)
  pub checks : CountsChecks p.tally (checks_in (notes_of done))
  pub firings : CountsFirings p.fired (firings_in (notes_of done))
