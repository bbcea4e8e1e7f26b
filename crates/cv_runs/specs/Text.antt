-- What the text says of its points: registers read, windows and procedures
-- (docs/REPAIR.md, "Windows and procedures").
use Rattle.std.specs.Prelude.{ℕ, suc, zero, Bool, true, false, ◌||◌, ◌==◌, ◌+◌, ◌-◌, ◌*◌, max, min, nat_le, nat_lt, if◌then◌else◌, List, [], ◌∷◌, length, filter, map, fold, Option, Some, None}
use Rattle.std.specs.List.{filter_map, list_any, range_with_len}
use Rattle.cv_base.specs.Picture.{Picture, is_point, word_at}
use Rattle.cv_isa.specs.DecodeTable.{meaning_of}
use Rattle.cv_isa.specs.declared.operation.Op.{Op}
use Rattle.cv_isa.specs.declared.operation.Op.TheVariants as op
use Rattle.cv_isa.specs.Instruction.{Instruction}
use Rattle.cv_isa.specs.Uses.{registers, is_read, is_transfer_of, is_link}
use Rattle.cv_runs.specs.Arithmetic.{plus32}

-- the instruction at a point; None where its word is none
abbrev pub inst_at : Picture → ℕ → Option Instruction
inst_at image p = meaning_of (word_at image p)

-- a word that is no instruction reads nothing and is no transfer
abbrev pub reads : Option Instruction → ℕ → Bool
reads None r = false
reads (Some i) r = is_read i r

abbrev pub transfers : Option Instruction → Bool
transfers None = false
transfers (Some i) = is_transfer_of i

-- the registers that the instruction at a point reads, ascending
abbrev pub reads_at : Picture → ℕ → List ℕ
reads_at image p = filter (reads (inst_at image p)) registers

-- the points before p, the nearest first: as many as `count`, stopping before a transfer and at
-- the start of the text
abbrev pub points_before : Picture → ℕ → ℕ → List ℕ
points_before image p zero = []
points_before image p (suc count) =
    elim ((p == image.text_base) || transfers (inst_at image (p - 4))) [
      | true ↦ []
      | false ↦ (p - 4) ∷ points_before image (p - 4) count
    ]

-- the window of p: p and up to seven points before it
abbrev pub window : Picture → ℕ → List ℕ
window image p = p ∷ points_before image p 7

-- the registers that are read in the window of p, ascending
abbrev pub registers_of : List (Option Instruction) → List ℕ
registers_of insts = filter (λ r. list_any (λ i. reads i r) insts) registers

abbrev pub window_registers : Picture → ℕ → List ℕ
window_registers image p = registers_of (map (inst_at image) (window image p))

abbrev pub points : Picture → List ℕ
points image = map (λ k. image.text_base + 4 * k) (range_with_len 0 (length image.words))

-- what a JAL with link rd at a point calls
abbrev pub target_of : ℕ → Instruction → Op → Option ℕ
target_of p i op.Jal = if is_link i.rd then Some (plus32 p i.imm) else None
target_of p i _ = None

abbrev pub call_target : ℕ → Option Instruction → Option ℕ
call_target p None = None
call_target p (Some i) = target_of p i i.op

-- where procedures begin: at the text's first point, at the entry, and at each point that is called
abbrev pub beginnings : Picture → List ℕ
beginnings image =
    image.text_base ∷ image.entry ∷ filter (is_point image) (filter_map (λ p. call_target p (inst_at image p)) (points image))

-- the greatest beginning not above p names the procedure of p
abbrev pub proc_in : List ℕ → ℕ → ℕ
proc_in starts p = fold max 0 (filter (λ b. nat_le b p) starts)

abbrev pub proc_of : Picture → ℕ → ℕ
proc_of image p = proc_in (beginnings image) p

-- the address after the last point of the procedure of p
abbrev pub proc_end : Picture → ℕ → ℕ
proc_end image p =
    fold min (image.text_base + 4 * length image.words) (filter (λ b. nat_lt p b) (beginnings image))
