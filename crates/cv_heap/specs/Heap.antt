-- The live blocks of the heap, in the order of their places, and the next place
-- (docs/MACHINE.md, "Services").
use Rattle.std.specs.Prelude.{ℕ, Bool, ◌&&◌, not, ◌==◌, ◌+◌, ◌*◌, ◌/◌, nat_le, nat_lt, List, [], ◌∷◌, ◌++◌, length, filter}
use Rattle.std.specs.List.{list_any}
use Rattle.cv_base.specs.declared.TheConstants.{HEAP_START, STACK_START}
use Rattle.cv_heap.specs.declared.TheConstants.{MOST_BLOCKS}
use Rattle.cv_heap.specs.declared.blocks.Block.{Block}

pub record Heap : Type 0 where
  pub blocks : List Block
  pub next : ℕ

abbrev pub empty_heap : Heap
empty_heap = record { blocks = []; next = HEAP_START }

-- whether a block of this size can be made
abbrev pub has_room : Heap → ℕ → Bool
has_room heap size = nat_lt (length heap.blocks) MOST_BLOCKS && nat_le (heap.next + size) STACK_START

-- a block at the next place; the next place grows by the size, rounded up to 16, and by 16 more
abbrev pub with_block : Heap → ℕ → Heap
with_block heap size =
    record { blocks = heap.blocks ++ record { place = heap.next; size = size } ∷ []; next = heap.next + 16 * ((size + 15) / 16) + 16 }

-- whether a live block begins at an address
abbrev pub begins_block : Heap → ℕ → Bool
begins_block heap a = list_any (λ (b : Block). b.place == a) heap.blocks

-- the block that begins at an address is live no more, and its place is not used again
abbrev pub without_block : Heap → ℕ → Heap
without_block heap a =
    record { blocks = filter (λ (b : Block). not (b.place == a)) heap.blocks; next = heap.next }

-- whether the `count` bytes from `a` on lie inside one live block
abbrev pub covers : Heap → ℕ → ℕ → Bool
covers heap a count = list_any (λ (b : Block). nat_le b.place a && nat_le (a + count) (b.place + b.size)) heap.blocks
