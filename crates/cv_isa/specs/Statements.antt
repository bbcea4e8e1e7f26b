-- Laws of words and meanings (docs/MACHINE.md).
use Rattle.std.specs.Prelude.{◌≡◌, ◌<◌, ◌^◌, ℕ, Some}
use Rattle.cv_isa.specs.DecodeTable.{meaning_of}
use Rattle.cv_isa.specs.Instruction.{Instruction, IsInstruction}
use Rattle.cv_isa.specs.Names.{word_of}

-- the word of an instruction means that instruction
abbrev pub WordsMean : Type 0
WordsMean = (i : Instruction) → IsInstruction i → meaning_of (word_of i) ≡ Some i

-- it is the only one that does
abbrev pub OneWordMeans : Type 0
OneWordMeans = (i : Instruction) (w : ℕ) → w < 2 ^ 32 → meaning_of w ≡ Some i → w ≡ word_of i

-- what a word means has its fields in range
abbrev pub MeaningsAreInstructions : Type 0
MeaningsAreInstructions = (i : Instruction) (w : ℕ) → w < 2 ^ 32 → meaning_of w ≡ Some i → IsInstruction i
