-- What the live blocks keep (docs/MACHINE.md, "Services").
use Rattle.std.specs.Prelude.{◌+◌, ◌<◌, ◌≤◌, List, length}
use Rattle.std.specs.List.{All, AllPairs}
use Rattle.cv_base.specs.declared.TheConstants.{STACK_START}
use Rattle.cv_heap.specs.declared.TheConstants.{MOST_BLOCKS}
use Rattle.cv_heap.specs.declared.blocks.Block.{Block}
use Rattle.cv_heap.specs.Heap.{Heap}

-- each block ends below the place of every later one
abbrev pub AreApart : List Block → Type 0
AreApart blocks = AllPairs (λ (a : Block) (b : Block). a.place + a.size < b.place) blocks

pub record IsHeap (heap : Heap) : Type 0 where
  pub few : length heap.blocks ≤ MOST_BLOCKS
  pub apart : AreApart heap.blocks
  pub below : All (λ (b : Block). b.place + b.size < heap.next) heap.blocks
  pub limit : heap.next < STACK_START + 32
