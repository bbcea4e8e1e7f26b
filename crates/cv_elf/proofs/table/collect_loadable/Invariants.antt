use Rattle.std.proofs.Common.{◌≡◌, ◌≤◌, ◌-◌, ◌++◌, length, map}
use Rattle.std.specs.List.{filter, range_with_len}
use Rattle.cv_elf.specs.Headers.{header_at, loadable_of, is_loadable}
use Rattle.cv_elf.proofs.table.collect_loadable.Given as goal

abbrev pub invariant-loop-place : goal.invariant-loop-place
invariant-loop-place l =
    (l.headers.items ++ filter is_loadable (map (header_at l.bytes) (range_with_len l.place (l.count - l.place))) ≡ loadable_of l.bytes)
    × (length l.headers.items ≤ 64)
