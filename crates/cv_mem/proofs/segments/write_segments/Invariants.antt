use Rattle.std.proofs.Common.{◌≡◌, ◌≤◌, length, drop}
use Rattle.cv_mem.specs.Memory.{memory_of, start_memory}
use Rattle.cv_mem.proofs.segments.write_segments.Given as goal

abbrev pub invariant-segments : goal.invariant-segments
invariant-segments l = record {
  within : l.left ≤ length l.segments;
  written : memory_of l.bytes ≡ start_memory (drop l.left l.segments);
}

abbrev pub decreases-segments : goal.decreases-segments
decreases-segments l = l.left
