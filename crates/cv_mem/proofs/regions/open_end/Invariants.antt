use Rattle.std.proofs.Common.{◌≡◌, false, take}
use Rattle.cv_base.specs.Regions.{is_in_region}
use Rattle.cv_mem.specs.Access.{permits}
use Rattle.cv_mem.proofs.regions.open_end.Given as goal

abbrev pub invariant-loop-region : goal.invariant-loop-region
invariant-loop-region l = is_in_region (permits l.access) (take l.region-index l.regions) l.addr ≡ false
