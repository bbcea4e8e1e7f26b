use Rattle.std.proofs.Common.{◌≡◌, map, take}
use Rattle.cv_replay_examples.proofs.posted.copied.Given as goal

abbrev pub invariant-loop-table : goal.invariant-loop-table
invariant-loop-table l = map (λ t. t.value) l.copy.items ≡ map (λ t. t.value) (take l.table-index l.tables)
