-- That a set restores its invariant (docs/REPAIR.md, "Repairs").
use Rattle.std.specs.Prelude.{◌≡◌, ◌<◌, ◌^◌, ⊤, ℕ, Bool, true, ◌==◌, List, [], ◌∷◌, length, filter, Contains}
use Rattle.std.specs.List.{AllByRecursion}
use Rattle.cv_base.specs.declared.invariants.Invariant.{Invariant}
use Rattle.cv_base.specs.declared.invariants.Invariant.TheVariants.{OneOf, Lower, LessThan, SpOffset}
use Rattle.cv_base.specs.declared.patches.Action.{Action}
use Rattle.cv_base.specs.declared.patches.Patch.{Patch}
use Rattle.cv_base.specs.declared.patches.Patch.TheVariants.{Enforce}
use Rattle.cv_base.specs.Invariants.{is_invariant}
use Rattle.cv_base.specs.Picture.{Picture}
use Rattle.cv_histories.specs.Repairs.{sets_of}
use Rattle.cv_runs.specs.Apply.{apply, core_holds, patch_point}
use Rattle.cv_shadow.specs.declared.frames.Core.{Core}
use Rattle.cv_shadow.specs.declared.frames.Frame.{Frame}

-- 32 registers, and frames of 32-bit words
pub record IsCore (core : Core) : Type 0 where
  pub all : length core.regs ≡ 32
  pub frames : AllByRecursion (λ (f : Frame). f.sp < 2 ^ 32) core.frames

-- the offset of an invariant, where it has one, is a 32-bit word
abbrev pub HasWordOffset : Invariant → Type 0
HasWordOffset (OneOf point reg values) = ⊤
HasWordOffset (Lower point reg bound) = ⊤
HasWordOffset (LessThan point low high) = ⊤
HasWordOffset (SpOffset point offset) = offset < 2 ^ 32

-- where one patch stands at a point, and it enforces an invariant by one of its sets, the
-- invariant holds behind it
abbrev pub SetRestores : Type 0
SetRestores =
    (image : Picture) (point : ℕ → Bool) (p case index : ℕ) (k : Invariant) (action : Action) (patches : List Patch) (core : Core)
    → is_invariant k ≡ true → HasWordOffset k → Contains (sets_of image k) action
    → filter (λ (q : Patch). patch_point q == p) patches ≡ Enforce case index k action ∷ []
    → IsCore core → core_holds k (apply point p patches core).core ≡ true
