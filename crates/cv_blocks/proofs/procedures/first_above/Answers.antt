use Rattle.std.proofs.Common.{◌≡◌, ◌<◌, ◌≤◌, ℕ, leb, min, length, get_or, rules}
use Rattle.std.proofs.lemmas.List.Sorted.{IsPartitionPoint-from_clause, IsPartitionedBy-leb}
use Rattle.cv_blocks.proofs.Bounds.{none_above, first_found}
use Rattle.cv_blocks.proofs.procedures.first_above.Goals as goal

pub returns-in-Some : goal.returns-in-Some
returns-in-Some c =
    let parts = IsPartitionPoint-from_clause (λ (y : ℕ). leb y c.args.limit) _ _ c.partition_point-count.ensures.partitioned (IsPartitionedBy-leb (λ (y : ℕ). y) _ _ c.requires) (λ a r f' k. search rules) in
    let n = c.partition_point-count.result in
    let within : n < length c.args.starts.now = search rules in
    let least : c.min.result ≡ min c.args.end (get_or c.args.starts.now n 0) = search rules in
    rw least (first_found c.args.starts.now c.args.limit c.args.end n c.requires within parts)

pub returns-in-None : goal.returns-in-None
returns-in-None c =
    let parts = IsPartitionPoint-from_clause (λ (y : ℕ). leb y c.args.limit) _ _ c.partition_point-count.ensures.partitioned (IsPartitionedBy-leb (λ (y : ℕ). y) _ _ c.requires) (λ a r f' k. search rules) in
    let n = c.partition_point-count.result in
    let outside : length c.args.starts.now ≤ n = search rules in
    none_above c.args.starts.now c.args.limit c.args.end n outside parts
