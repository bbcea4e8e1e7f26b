-- The patches at a point, before its turn (docs/REPAIR.md, "Patches").
use Rattle.std.specs.Prelude.{ℕ, Bool, true, false, ◌==◌, if◌then◌else◌, List, [], ◌∷◌, ◌++◌}
use Rattle.cv_base.specs.declared.invariants.Invariant.{Invariant}
use Rattle.cv_base.specs.declared.patches.Action.{Action}
use Rattle.cv_base.specs.declared.patches.Action.TheVariants.{SetConst, SetCopy, SetSp, Skip, Return}
use Rattle.cv_base.specs.declared.patches.Patch.{Patch}
use Rattle.cv_base.specs.declared.patches.Patch.TheVariants.{Check, Enforce}
use Rattle.cv_base.specs.Registers.{register, with_register}
use Rattle.cv_runs.specs.Arithmetic.{plus32, minus32}
use Rattle.cv_runs.specs.Invariants.{holds, point_of}
use Rattle.cv_shadow.specs.declared.frames.Core.{Core}
use Rattle.cv_shadow.specs.declared.frames.Frame.{Frame}
use Rattle.cv_shadow.specs.Frames.{frame_sp}

-- what the patches of a run note: a candidate of a case was checked and held or not, or a repair
-- of a case fired
pub data Note : Type 0 where
  Checked : ℕ → ℕ → Bool → Note  -- case, index, whether it held
  Fired : ℕ → ℕ → Note  -- case, index

-- what patches leave: the core, their notes, and whether one of them used up the turn
pub record Left : Type 0 where
  pub core : Core
  pub notes : List Note
  pub acted : Bool

abbrev pub went_on : Core → List Note → Left
went_on core notes = record { core = core; notes = notes; acted = false }

abbrev pub acted_with : Core → List Note → Left
acted_with core notes = record { core = core; notes = notes; acted = true }

abbrev pub with_regs : Core → List ℕ → Core
with_regs core regs = record core { regs = regs }

-- back to the return address of the top frame, which is gone; x2 is the offset less
abbrev pub returned : (ℕ → Bool) → ℕ → Core → List Frame → List Note → Left
returned point offset core [] notes = went_on core notes
returned point offset core (f ∷ fs) notes =
    if point f.back
    then acted_with (record { pc = f.back; regs = with_register core.regs 2 (minus32 (register core.regs 2) offset); frames = fs }) notes
    else went_on core notes

-- what an action does; `point` tells which addresses are points
abbrev pub act : (ℕ → Bool) → Action → Core → List Note → Left
act point (SetConst reg value) core notes = went_on (with_regs core (with_register core.regs reg value)) notes
act point (SetCopy reg source) core notes = went_on (with_regs core (with_register core.regs reg (register core.regs source))) notes
act point (SetSp offset) core notes = went_on (with_regs core (with_register core.regs 2 (plus32 (frame_sp core.frames) offset))) notes
act point Skip core notes =
    if point (plus32 core.pc 4) then acted_with (record core { pc = plus32 core.pc 4 }) notes else went_on core notes
act point (Return offset) core notes = returned point offset core core.frames notes

abbrev pub core_holds : Invariant → Core → Bool
core_holds invariant core = holds invariant core.regs (frame_sp core.frames)

abbrev pub one_patch : (ℕ → Bool) → Patch → Core → Left
one_patch point (Check case index invariant) core = went_on core (Checked case index (core_holds invariant core) ∷ [])
one_patch point (Enforce case index invariant action) core =
    if core_holds invariant core then went_on core [] else act point action core (Fired case index ∷ [])

abbrev pub patch_point : Patch → ℕ
patch_point (Check case index invariant) = point_of invariant
patch_point (Enforce case index invariant action) = point_of invariant

-- what came before goes in front of what came after
abbrev pub after : Left → Left → Left
after first later = record { core = later.core; notes = first.notes ++ later.notes; acted = later.acted }

-- the patches at the point p, in their order, each on the core that the earlier ones left; a
-- patch that acted ends the list
abbrev pub apply : (ℕ → Bool) → ℕ → List Patch → Core → Left
apply point p [] core = went_on core []
apply point p (q ∷ qs) core =
    elim (patch_point q == p) [
      | false ↦ apply point p qs core
      | true ↦ elim ((one_patch point q core).acted) [
        | true ↦ one_patch point q core
        | false ↦ after (one_patch point q core) (apply point p qs (one_patch point q core).core)
      ]
    ]
