-- Worked plain runs: how each ends, its turns and its output.
use Rattle.std.specs.Prelude.{◌≡◌, ℕ, List, [], ◌∷◌, codes, length}
use Rattle.cv_base.specs.EndText.{end_text}
use Rattle.cv_runs.specs.PlainRun.{plain_run, end_of, state_left}
use Rattle.cv_runs.specs.State.{start_state}
use Rattle.cv_histories.specs.DrillPlan.{flat_image}

pub record Ended : Type 0 where
  pub end : List ℕ  -- as text
  pub turns : ℕ
  pub output : List ℕ

abbrev pub ended : List ℕ → ℕ → List ℕ → Ended
ended end turns output = record { end = end; turns = turns; output = output }

-- the plain run of the flat image of some words
abbrev pub running : List ℕ → List ℕ → ℕ → Ended
running words input budget =
    let run = plain_run (flat_image words) input budget in
    record { end = end_text (end_of run); turns = length run; output = (state_left (start_state (flat_image words) input) run).output }

abbrev pub calling_words : List ℕ
calling_words =
    0x00000513 ∷ 0xff010593 ∷ 0x00400613 ∷ 0x03f00893 ∷ 0x00000073 ∷ 0xff012303 ∷ 0x000300e7 ∷ 0x05d00893 ∷ 0x00000073 ∷ 0x00700513 ∷ 0x00008067 ∷ 0x00900513 ∷ 0x00008067 ∷ []

-- a plain exit
abbrev pub Exits : Type 0
Exits = running (0x05d00893 ∷ 0x00000513 ∷ 0x00000073 ∷ []) [] 1000 ≡ ended (codes "exit:0") 3 []

-- the indirect call, to the first target
abbrev pub CallsFirst : Type 0
CallsFirst = running calling_words (36 ∷ 0 ∷ 1 ∷ 0 ∷ []) 1000 ≡ ended (codes "exit:7") 11 []

-- the indirect call, with bit 0 set
abbrev pub ClearsBitZero : Type 0
ClearsBitZero = running calling_words (37 ∷ 0 ∷ 1 ∷ 0 ∷ []) 1000 ≡ ended (codes "exit:7") 11 []

-- the indirect call, to no point
abbrev pub CallsNoPoint : Type 0
CallsNoPoint = running calling_words (38 ∷ 0 ∷ 1 ∷ 0 ∷ []) 1000 ≡ ended (codes "failure:illegal-transfer:00010018:00010026") 7 []

-- a misaligned load
abbrev pub Misaligned : Type 0
Misaligned = running (0x00202283 ∷ []) [] 1000 ≡ ended (codes "failure:crash-misaligned:00010000:00000002") 1 []

-- an unreadable load
abbrev pub Unreadable : Type 0
Unreadable = running (0x00002283 ∷ []) [] 1000 ≡ ended (codes "failure:crash-unreadable:00010000:00000000") 1 []

-- an unwritable store
abbrev pub Unwritable : Type 0
Unwritable = running (0x00502023 ∷ []) [] 1000 ≡ ended (codes "failure:crash-unwritable:00010000:00000000") 1 []

-- a store into the text
abbrev pub IntoCode : Type 0
IntoCode = running (0x00010337 ∷ 0x00532023 ∷ []) [] 1000 ≡ ended (codes "failure:crash-code:00010004:00010000") 2 []

-- a break
abbrev pub Breaks : Type 0
Breaks = running (0x00100073 ∷ []) [] 1000 ≡ ended (codes "failure:crash-break:00010000:00000000") 1 []

-- a word that is no instruction
abbrev pub Illegal : Type 0
Illegal = running (0x00000000 ∷ []) [] 1000 ≡ ended (codes "failure:crash-illegal:00010000:00000000") 1 []

-- a store to the last byte of a block
abbrev pub InsideBlock : Type 0
InsideBlock = running (0x00800513 ∷ 0x3e800893 ∷ 0x00000073 ∷ 0x005503a3 ∷ 0x05d00893 ∷ 0x00000073 ∷ []) [] 1000 ≡ ended (codes "exit:4194304") 6 []

-- a store past a block
abbrev pub PastBlock : Type 0
PastBlock = running (0x00800513 ∷ 0x3e800893 ∷ 0x00000073 ∷ 0x00551423 ∷ []) [] 1000 ≡ ended (codes "failure:heap-guard:0001000C:00400008") 4 []

-- a store that begins inside a block and ends past it
abbrev pub OverBlockEnd : Type 0
OverBlockEnd = running (0x00600513 ∷ 0x3e800893 ∷ 0x00000073 ∷ 0x00552223 ∷ []) [] 1000 ≡ ended (codes "failure:heap-guard:0001000C:00400004") 4 []

-- a store into a freed block
abbrev pub AfterFree : Type 0
AfterFree = running (0x00800513 ∷ 0x3e800893 ∷ 0x00000073 ∷ 0x00050313 ∷ 0x3e900893 ∷ 0x00000073 ∷ 0x00530023 ∷ []) [] 1000 ≡ ended (codes "failure:heap-guard:00010018:00400000") 7 []

-- a read past a block
abbrev pub ReadsPastBlock : Type 0
ReadsPastBlock = running (0x00800513 ∷ 0x3e800893 ∷ 0x00000073 ∷ 0x00050593 ∷ 0x00000513 ∷ 0x04000613 ∷ 0x03f00893 ∷ 0x00000073 ∷ []) (0 ∷ 1 ∷ 2 ∷ 3 ∷ 4 ∷ 5 ∷ 6 ∷ 7 ∷ 8 ∷ []) 1000 ≡ ended (codes "failure:heap-guard:0001001C:00400000") 8 []

-- a return to another address
abbrev pub DamagedReturn : Type 0
DamagedReturn = running (0x00c000ef ∷ 0x05d00893 ∷ 0x00000073 ∷ 0xffc08093 ∷ 0x00008067 ∷ []) [] 1000 ≡ ended (codes "failure:shadow-stack:00010010:00010000") 3 []

-- a return without a call
abbrev pub NoFrame : Type 0
NoFrame = running (0x00008067 ∷ []) [] 1000 ≡ ended (codes "failure:shadow-stack:00010000:00000000") 1 []

-- a loop that the budget ends
abbrev pub OutOfBudget : Type 0
OutOfBudget = running (0x0000006f ∷ []) [] 5 ≡ ended (codes "budget") 5 []

-- bytes to the output
abbrev pub Writes : Type 0
Writes = running (0x00100513 ∷ 0x000105b7 ∷ 0x02058593 ∷ 0x00300613 ∷ 0x04000893 ∷ 0x00000073 ∷ 0x05d00893 ∷ 0x00000073 ∷ 0x000a6968 ∷ []) [] 1000 ≡ ended (codes "exit:3") 8 (104 ∷ 105 ∷ 10 ∷ [])
