use Rattle.std.proofs.Common.{leb, rules}
use Rattle.std.proofs.lemmas.List.Sorted.{IsPartitionPoint-from_clause, IsPartitionedBy-leb}
use Rattle.cv_heap.specs.declared.blocks.Block.{Block}
use Rattle.cv_heap.proofs.Places.{rising, last_found}
use Rattle.cv_heap.proofs.blocks.last_begun.Goals as goal

pub returns : goal.returns
returns c =
    last_found _ _ _ _ c.checked_sub.ensures c.partition_point.ensures.bound
    (IsPartitionPoint-from_clause (λ (b : Block). leb b.place c.args.addr) _ _ c.partition_point.ensures.partitioned
    (IsPartitionedBy-leb (λ (b : Block). b.place) _ _ (rising _ c.requires)) (λ a r f' k. search rules))
