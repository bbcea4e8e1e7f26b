use Rattle.std.proofs.Common.{◌≡◌, ◌∷◌, take}
use Rattle.std.specs.Prelude.{map}
use Rattle.cv_shadow.specs.declared.frames.Frame.{Frame}
use Rattle.cv_exec.proofs.sites.call_sites.Given as goal

abbrev pub invariant-loop-depth : goal.invariant-loop-depth
invariant-loop-depth l = l.sites.items ≡ l.core.pc ∷ map (λ (f : Frame). f.call) (take l.depth l.core.frames)
