-- Patches that noted no firing did nothing, and the turn after them is the plain one.
use Rattle.std.proofs.Common.{◌≡◌, ℕ, Bool, true, false, List, [], ◌∷◌, refl, ap, ◌∙◌}
use Rattle.std.specs.Prelude.{◌==◌, if◌then◌else◌}
use Rattle.cv_base.specs.declared.patches.Action.{Action}
use Rattle.cv_base.specs.declared.patches.Action.TheVariants.{SetConst, SetCopy, SetSp, Skip, Return}
use Rattle.cv_base.specs.declared.patches.Patch.{Patch}
use Rattle.cv_base.specs.declared.patches.Patch.TheVariants.{Check, Enforce}
use Rattle.cv_base.specs.Picture.{Picture, is_point}
use Rattle.cv_laws.proofs.NoFirings.{unfired_parts}
use Rattle.cv_histories.specs.Rows.{firings_in}
use Rattle.cv_runs.specs.Apply.{Note, Fired, Left, went_on, acted_with, returned, act, core_holds, one_patch, patch_point, after, apply}
use Rattle.cv_runs.specs.PatchedRun.{Table, PatchedTurn, with_core, patched_turn}
use Rattle.cv_runs.specs.PlainTurn.{turn_of}
use Rattle.cv_runs.specs.State.{State, Next}
use Rattle.cv_shadow.specs.declared.frames.Core.{Core}
use Rattle.cv_shadow.specs.declared.frames.Frame.{Frame}

-- the patches left the core as it was, and none acted
record IsIdle (core : Core) (left : Left) : Type 0 where
  core_kept : left.core ≡ core
  still : left.acted ≡ false

-- an action notes nothing of its own

chosen_notes : (b : Bool) (core other : Core) (notes : List Note) → (if b then acted_with other notes else went_on core notes).notes ≡ notes
chosen_notes true core other notes = refl
chosen_notes false core other notes = refl

returned_notes : (point : ℕ → Bool) (offset : ℕ) (core : Core) (frames : List Frame) (notes : List Note) → (returned point offset core frames notes).notes ≡ notes
returned_notes point offset core [] notes = refl
returned_notes point offset core (f ∷ fs) notes = chosen_notes (point f.back) core _ notes

act_notes : (point : ℕ → Bool) (action : Action) (core : Core) (notes : List Note) → (act point action core notes).notes ≡ notes
act_notes point (SetConst reg value) core notes = refl
act_notes point (SetCopy reg source) core notes = refl
act_notes point (SetSp offset) core notes = refl
act_notes point Skip core notes = chosen_notes (point _) core _ notes
act_notes point (Return offset) core notes = returned_notes point offset core core.frames notes

-- an invariant that does not hold notes a firing
enforced_idle : (holds : Bool) (core : Core) (case index : ℕ) (left : Left) → left.notes ≡ Fired case index ∷ [] → firings_in (if holds then went_on core [] else left).notes ≡ [] → IsIdle core (if holds then went_on core [] else left)
enforced_idle true core case index left notes none = record { core_kept = refl; still = refl }
enforced_idle false core case index left notes none =
    let fired : firings_in left.notes ≡ record { case = case; index = index } ∷ [] = ap firings_in notes in
    absurd cc

-- a patch that noted no firing did nothing
one_idle : (point : ℕ → Bool) (q : Patch) (core : Core) → firings_in (one_patch point q core).notes ≡ [] → IsIdle core (one_patch point q core)
one_idle point (Check case index invariant) core none = record { core_kept = refl; still = refl }
one_idle point (Enforce case index invariant action) core none =
    enforced_idle (core_holds invariant core) core case index (act point action core (Fired case index ∷ [])) (act_notes point action core _) none

-- the first patch, and what the later ones leave where it went on
abbrev first_with : Bool → Left → Left → Left
first_with acted one later = elim acted [ true ↦ one | false ↦ after one later ]

first_idle : (acted : Bool) (core : Core) (one later : Left) → one.acted ≡ acted → (firings_in one.notes ≡ [] → IsIdle core one) → (firings_in later.notes ≡ [] → IsIdle one.core later) → firings_in (first_with acted one later).notes ≡ [] → IsIdle core (first_with acted one later)
first_idle true core one later is first rest none =
    let still : one.acted ≡ false = (first none).still in
    absurd cc
first_idle false core one later is first rest none =
    let parts = unfired_parts one.notes later.notes none in
    record { core_kept = (rest parts.1).core_kept ∙ (first parts.0).core_kept; still = (rest parts.1).still }

-- a patch, where it is at the point, in front of the later ones
abbrev placed_with : Bool → Left → Left → Left
placed_with here one later = elim here [ false ↦ later | true ↦ one ]

placed_idle : (here : Bool) (core : Core) (one later : Left) → (firings_in one.notes ≡ [] → IsIdle core one) → (firings_in later.notes ≡ [] → IsIdle core later) → firings_in (placed_with here one later).notes ≡ [] → IsIdle core (placed_with here one later)
placed_idle false core one later first rest none = rest none
placed_idle true core one later first rest none = first none

-- patches that noted no firing did nothing
apply_idle : (point : ℕ → Bool) (p : ℕ) (qs : List Patch) (core : Core) → firings_in (apply point p qs core).notes ≡ [] → IsIdle core (apply point p qs core)
apply_idle point p [] core none = record { core_kept = refl; still = refl }
apply_idle point p (q ∷ qs) core none =
    let one : Left = one_patch point q core in
    let later : Left = apply point p qs one.core in
    placed_idle (patch_point q == p) core (first_with one.acted one later) (apply point p qs core)
    (first_idle one.acted core one later refl (one_idle point q core) (apply_idle point p qs one.core))
    (apply_idle point p qs core)
    none

-- the turn after patches, by whether one acted
abbrev turn_with : Picture → State → Left → Bool → PatchedTurn
turn_with image s left acted =
    elim acted [
      | true ↦ record { notes = left.notes; outcome = Next (with_core s left.core) true }
      | false ↦ record { notes = left.notes; outcome = turn_of image (with_core s left.core) }
    ]

idle_turn : (image : Picture) (s : State) (left : Left) (acted : Bool) → left.acted ≡ acted → (firings_in left.notes ≡ [] → IsIdle s.core left) → firings_in (turn_with image s left acted).notes ≡ [] → (turn_with image s left acted).outcome ≡ turn_of image s
idle_turn image s left true is idle none =
    let still : left.acted ≡ false = (idle none).still in
    absurd cc
idle_turn image s left false is idle none = ap (λ (core : Core). turn_of image (with_core s core)) (idle none).core_kept

-- a turn without a firing is the plain turn
pub plain_turn : (image : Picture) (table : Table) (s : State) → firings_in (patched_turn image table s).notes ≡ [] → (patched_turn image table s).outcome ≡ turn_of image s
plain_turn image table s none =
    let left : Left = apply (is_point image) s.core.pc table s.core in
    idle_turn image s left left.acted refl (apply_idle (is_point image) s.core.pc table s.core) none
