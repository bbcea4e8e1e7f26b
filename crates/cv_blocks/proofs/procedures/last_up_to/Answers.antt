use Rattle.std.proofs.Common.{ℕ, leb, rules, arith}
use Rattle.std.proofs.lemmas.List.Sorted.{IsPartitionPoint-from_clause, IsPartitionedBy-leb}
use Rattle.cv_blocks.proofs.Bounds.{none_found, last_found}
use Rattle.cv_blocks.proofs.procedures.last_up_to.Goals as goal

pub returns-in-0 : goal.returns-in-0
returns-in-0 c =
    let parts = IsPartitionPoint-from_clause (λ (y : ℕ). leb y c.args.limit) _ _ c.partition_point.ensures.partitioned (IsPartitionedBy-leb (λ (y : ℕ). y) _ _ c.requires) (λ a r f' k. search rules) in
    none_found c.args.starts.now c.args.limit (rw c.in-0.is at parts)

pub returns-in_default : goal.returns-in_default
returns-in_default c =
    let parts = IsPartitionPoint-from_clause (λ (y : ℕ). leb y c.args.limit) _ _ c.partition_point.ensures.partitioned (IsPartitionedBy-leb (λ (y : ℕ). y) _ _ c.requires) (λ a r f' k. search rules) in
    last_found c.args.starts.now c.args.limit c.partition_point.result c.requires (omega arith) c.partition_point.ensures.bound parts
