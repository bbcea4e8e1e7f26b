-- What a search among the blocks finds.
use Rattle.std.specs.Prelude.{◌≡◌, ℕ, false, ◌==◌, ◌+◌, ◌<◌, ◌≤◌, List, length}
use Rattle.std.specs.List.{All, AllWithin, HoldsAt}
use Rattle.cv_heap.specs.declared.blocks.Block.{Block}

-- no block begins at the address, and the block at a place does
abbrev pub NoneBegins : List Block → ℕ → Type 0
NoneBegins blocks a = All (λ (b : Block). (b.place == a) ≡ false) blocks

pub record BeginsAt (blocks : List Block) (a i : ℕ) : Type 0 where
  pub within : i < length blocks
  pub begins : HoldsAt (λ (b : Block). b.place ≡ a) blocks i

-- no block begins at or below the address, and the block at a place is the last that does
abbrev pub NoneBegun : List Block → ℕ → Type 0
NoneBegun blocks a = All (λ (b : Block). a < b.place) blocks

pub record IsLastBegun (blocks : List Block) (a i : ℕ) : Type 0 where
  pub within : i < length blocks
  pub begun : HoldsAt (λ (b : Block). b.place ≤ a) blocks i
  pub later : AllWithin (λ (b : Block). a < b.place) blocks (i + 1) (length blocks)
