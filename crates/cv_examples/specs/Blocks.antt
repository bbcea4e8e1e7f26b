-- Where blocks begin: at each turn of a loop, and at each 64th turn of a straight run.
use Rattle.std.specs.Prelude.{◌≡◌, ◌+◌, ℕ, true, false, List, [], ◌∷◌, ◌++◌, replicate, unwrap_or}
use Rattle.cv_runs.specs.PatchedRun.{PatchedStep, run_under}
use Rattle.cv_histories.specs.DrillPlan.{flat_image}

-- the numbers of the turns that are block entries
abbrev pub entries_from : ℕ → List PatchedStep → List ℕ
entries_from n [] = []
entries_from n (step ∷ steps) = elim (step.enters) [ true ↦ n ∷ entries_from (n + 1) steps | false ↦ entries_from (n + 1) steps ]

abbrev pub block_entries : List ℕ → ℕ → List ℕ
block_entries words budget = entries_from 0 (unwrap_or (run_under (flat_image words) [] budget []) [])

-- so many additions, then the exit
abbrev pub straight : ℕ → List ℕ
straight n = replicate n 0x00500013 ++ 0x05d00893 ∷ 0x00000073 ∷ []

abbrev pub LoopEntries : Type 0
LoopEntries = block_entries (0x0000006f ∷ []) 5 ≡ 0 ∷ 1 ∷ 2 ∷ 3 ∷ 4 ∷ []

abbrev pub StraightEntries : Type 0
StraightEntries = block_entries (straight 65) 1000 ≡ 0 ∷ 64 ∷ []

-- the 64th turn after the last block entry, and not the 63rd
abbrev pub LongEntries : Type 0
LongEntries = block_entries (straight 133) 1000 ≡ 0 ∷ 64 ∷ 128 ∷ []
