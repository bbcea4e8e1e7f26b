use Rattle.std.proofs.Common.{◌≡◌, ◌-◌, map}
use Rattle.std.specs.List.{list_any, range_with_len}
use Rattle.cv_elf.specs.Headers.{header_at, headers_of, is_dynamic}
use Rattle.cv_elf.proofs.table.has_dynamic.Given as goal

abbrev pub invariant-loop-place : goal.invariant-loop-place
invariant-loop-place l = list_any is_dynamic (map (header_at l.bytes) (range_with_len l.place (l.count - l.place))) ≡ list_any is_dynamic (headers_of l.bytes)
