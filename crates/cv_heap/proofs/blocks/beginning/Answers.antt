use Rattle.std.proofs.Common.{rules}
use Rattle.std.proofs.lemmas.Fn.{always_returns_same}
use Rattle.cv_heap.specs.declared.blocks.Block.{Block}
use Rattle.cv_heap.proofs.Places.{begin_found}
use Rattle.cv_heap.proofs.blocks.beginning.Goals as goal

pub returns : goal.returns
returns c =
    rw c.ok.ensures.value
    (begin_found _ _ _ c.requires c.binary_search_by_key.ensures.bound
    (c.binary_search_by_key.ensures.position (λ (b : Block). b.place) (always_returns_same _ _ _ (λ a r f' k. search rules))))
