-- The listing of words: a line for each, which the assembler reads as that word
-- (docs/FORMATS.md, "Assembly").
use Rattle.std.specs.Prelude.{ℕ, ◌-◌, ◌/◌, ◌^◌, Bool, true, false, not, ◌==◌, ◌&&◌, nat_lt, if◌then◌else◌, List, [], ◌∷◌, ◌++◌, Option, Some, None, codes}
use Rattle.std.specs.List.{flat_map}
use Rattle.std.specs.Fmt.{decimal}
use Rattle.cv_base.specs.Text.{address_text}
use Rattle.cv_isa.specs.Instruction.{Instruction}
use Rattle.cv_isa.specs.DecodeTable.{meaning_of}
use Rattle.cv_isa.specs.Names.{name_of}
use Rattle.cv_asm.specs.declared.shapes.Shape.{Shape}
use Rattle.cv_asm.specs.declared.shapes.Shape.TheVariants as shape
use Rattle.cv_asm.specs.Shapes.{shape_of}

abbrev pub register_text : ℕ → List ℕ
register_text r = 120 ∷ decimal r

-- a 32-bit number as a signed one, in decimal
abbrev pub signed_text : ℕ → List ℕ
signed_text n = if nat_lt n (2 ^ 31) then decimal n else 45 ∷ decimal (2 ^ 32 - n)

-- three operands and two, joined by commas; a number and its base register in round brackets
abbrev pub three_text : List ℕ → List ℕ → List ℕ → List ℕ
three_text a b c = 32 ∷ (a ++ 44 ∷ (b ++ 44 ∷ c))

abbrev pub two_text : List ℕ → List ℕ → List ℕ
two_text a b = 32 ∷ (a ++ 44 ∷ b)

abbrev pub based_text : List ℕ → List ℕ → List ℕ → List ℕ
based_text a n base = 32 ∷ (a ++ 44 ∷ (n ++ 40 ∷ (base ++ 41 ∷ [])))

-- the operands behind the name
abbrev pub operands_text : Shape → Instruction → List ℕ
operands_text shape.Registers i = three_text (register_text i.rd) (register_text i.rs1) (register_text i.rs2)
operands_text shape.WithNumber i = three_text (register_text i.rd) (register_text i.rs1) (signed_text i.imm)
operands_text shape.ByAmount i = three_text (register_text i.rd) (register_text i.rs1) (signed_text i.imm)
operands_text shape.FromAddress i = based_text (register_text i.rd) (signed_text i.imm) (register_text i.rs1)
operands_text shape.ToAddress i = based_text (register_text i.rs2) (signed_text i.imm) (register_text i.rs1)
operands_text shape.Branch i = three_text (register_text i.rs1) (register_text i.rs2) (signed_text i.imm)
operands_text shape.UpperBits i = two_text (register_text i.rd) (decimal (i.imm / 2 ^ 12))
operands_text shape.Jump i = two_text (register_text i.rd) (signed_text i.imm)
operands_text shape.Fence i = []
operands_text shape.Alone i = []

abbrev pub instruction_text : Instruction → List ℕ
instruction_text i = name_of i.op ++ operands_text (shape_of i.op) i

-- the word as a number
abbrev pub data_text : ℕ → List ℕ
data_text word = codes ".word 0x" ++ address_text word

abbrev pub is_fence : Shape → Bool
is_fence shape.Fence = true
is_fence _ = false

-- a FENCE other than the one that the name stands for has no name of its own
abbrev pub is_other_fence : ℕ → Instruction → Bool
is_other_fence word i = is_fence (shape_of i.op) && not (word == 0x0ff0000f)

-- the line of a word that is shown as an instruction, or as a number
abbrev pub shown_text : ℕ → Option Instruction → List ℕ
shown_text word None = data_text word
shown_text word (Some i) = instruction_text i

-- the instruction that a word is shown as
abbrev pub shown_as : ℕ → Option Instruction → Option Instruction
shown_as word None = None
shown_as word (Some i) = if is_other_fence word i then None else Some i

-- the line of a word, without its line feed
unfoldable pub word_text : ℕ → List ℕ
word_text word = shown_text word (shown_as word (meaning_of word))

abbrev pub listing_of : List ℕ → List ℕ
listing_of words = flat_map (λ w. word_text w ++ 10 ∷ []) words
