use Rattle.std.proofs.Common.{◌≡◌, map, take}
use Rattle.cv_elf.specs.Loading.{segment_of}
use Rattle.cv_elf.proofs.loading.load_segments.Given as goal

abbrev pub invariant-loop-header : goal.invariant-loop-header
invariant-loop-header l = l.segments.items ≡ map (segment_of l.bytes) (take l.header-index l.headers)
