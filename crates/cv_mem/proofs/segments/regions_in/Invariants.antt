use Rattle.std.proofs.Common.{◌≡◌, take}
use Rattle.std.specs.Prelude.{map}
use Rattle.cv_base.specs.declared.image.Segment.{Segment}
use Rattle.cv_mem.proofs.segments.regions_in.Given as goal

abbrev pub invariant-loop-segment : goal.invariant-loop-segment
invariant-loop-segment l = l.regions.items ≡ map (λ (s : Segment). s.region) (take l.segment-index l.segments)
