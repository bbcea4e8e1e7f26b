use Rattle.std.proofs.Common.{◌≡◌, false, take}
use Rattle.cv_mem.specs.Access.{code_meets}
use Rattle.cv_mem.proofs.regions.some_is_code.Given as goal

abbrev pub invariant-loop-region : goal.invariant-loop-region
invariant-loop-region l = code_meets (take l.region-index l.regions) l.addr l.len ≡ false
