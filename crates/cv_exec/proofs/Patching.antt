-- What patches leave: where none of them used up the turn, the pc and the frames are as they were.
use Rattle.std.proofs.Common.{◌≡◌, ℕ, Bool, true, false, List, [], ◌∷◌, Some, refl, ap, ◌∙◌}
use Rattle.std.specs.Prelude.{◌==◌, if◌then◌else◌}
use Rattle.cv_base.specs.declared.ends.End.{End}
use Rattle.cv_base.specs.declared.ends.End.TheVariants.{Failure}
use Rattle.cv_base.specs.declared.patches.Action.{Action}
use Rattle.cv_base.specs.declared.patches.Action.TheVariants.{SetConst, SetCopy, SetSp, Skip, Return}
use Rattle.cv_base.specs.declared.patches.Patch.{Patch}
use Rattle.cv_base.specs.declared.patches.Patch.TheVariants.{Check, Enforce}
use Rattle.cv_base.specs.Picture.{Picture, is_point}
use Rattle.cv_base.specs.declared.entries.FiredRow.{FiredRow}
use Rattle.cv_base.specs.declared.entries.TallyRow.{TallyRow}
use Rattle.cv_base.specs.Points.{Range}
use Rattle.cv_base.specs.Registers.{register, with_register}
use Rattle.cv_exec.specs.Keeping.{patched_state, patches_left, range_of}
use Rattle.cv_exec.specs.RunEnds.{end_sites}
use Rattle.cv_histories.specs.Rows.{checks_in, firings_in}
use Rattle.cv_machine.specs.Held.{Held, state_of}
use Rattle.cv_patch.specs.Applied.{left_at}
use Rattle.cv_patch.specs.Counts.{FiredGoesOn, TallyGoesOn}
use Rattle.cv_runs.specs.Apply.{Fired, Left, Note, act, acted_with, after, apply, core_holds, one_patch, patch_point, returned, went_on}
use Rattle.cv_runs.specs.Arithmetic.{minus32, plus32}
use Rattle.cv_runs.specs.PatchedRun.{PatchedTurn, Table, patched_turn, with_core}
use Rattle.cv_runs.specs.PlainTurn.{turn_of}
use Rattle.cv_runs.specs.State.{State, Next, Ended}
use Rattle.cv_shadow.specs.declared.frames.Core.{Core}
use Rattle.cv_shadow.specs.declared.frames.Frame.{Frame}

-- the pc and the frames are as they were before
record IsAt (before core : Core) : Type 0 where
  pub pc : core.pc ≡ before.pc
  pub frames : core.frames ≡ before.frames

abbrev StaysAt : Core → Left → Type 0
StaysAt before left = left.acted ≡ false → IsAt before left.core

stays : (core : Core) → IsAt core core
stays core = record { pc = refl; frames = refl }

chosen : (core : Core) (b : Bool) (one other : Left) → StaysAt core one → StaysAt core other → StaysAt core (if b then one else other)
chosen core true one other first second = first
chosen core false one other first second = second

acts : (core left : Core) (notes : List Note) → StaysAt core (acted_with left notes)
acts core left notes acted = cc

goes : (core : Core) (notes : List Note) → StaysAt core (went_on core notes)
goes core notes acted = stays core

stays_returned : (point : ℕ → Bool) (offset : ℕ) (core : Core) (frames : List Frame) (notes : List Note) → StaysAt core (returned point offset core frames notes)
stays_returned point offset core [] notes = goes core notes
stays_returned point offset core (f ∷ fs) notes =
    chosen core (point f.back) _ (went_on core notes) (acts core (record { pc = f.back; regs = with_register core.regs 2 (minus32 (register core.regs 2) offset); frames = fs }) notes) (goes core notes)

stays_act : (point : ℕ → Bool) (action : Action) (core : Core) (notes : List Note) → StaysAt core (act point action core notes)
stays_act point (SetConst reg value) core notes = λ acted. record { pc = refl; frames = refl }
stays_act point (SetCopy reg source) core notes = λ acted. record { pc = refl; frames = refl }
stays_act point (SetSp offset) core notes = λ acted. record { pc = refl; frames = refl }
stays_act point Skip core notes =
    chosen core (point (plus32 core.pc 4)) _ (went_on core notes) (acts core (record core { pc = plus32 core.pc 4 }) notes) (goes core notes)
stays_act point (Return offset) core notes = stays_returned point offset core core.frames notes

stays_one : (point : ℕ → Bool) (q : Patch) (core : Core) → StaysAt core (one_patch point q core)
stays_one point (Check case index invariant) core = λ acted. stays core
stays_one point (Enforce case index invariant action) core =
    chosen core (core_holds invariant core) (went_on core []) (act point action core (Fired case index ∷ [])) (goes core []) (stays_act point action core (Fired case index ∷ []))

further : (a b c : Core) → IsAt a b → IsAt b c → IsAt a c
further a b c first second = record { pc = second.pc ∙ first.pc; frames = second.frames ∙ first.frames }

module _ (point : ℕ → Bool) (p : ℕ) (q : Patch) (qs : List Patch) (core : Core) (rest : (core : Core) → StaysAt core (apply point p qs core)) where
  abbrev behind : Bool → Left
  behind b = elim b [ true ↦ one_patch point q core | false ↦ after (one_patch point q core) (apply point p qs (one_patch point q core).core) ]

  abbrev begun : Bool → Left
  begun b = elim b [ false ↦ apply point p qs core | true ↦ behind ((one_patch point q core).acted) ]

  stays_behind : (b : Bool) → (one_patch point q core).acted ≡ b → StaysAt core (behind b)
  stays_behind true is = stays_one point q core
  stays_behind false is = λ acted. further core _ _ (stays_one point q core is) (rest (one_patch point q core).core acted)

  stays_begun : (b : Bool) → StaysAt core (begun b)
  stays_begun false = rest core
  stays_begun true = stays_behind ((one_patch point q core).acted) refl

stays_at : (point : ℕ → Bool) (p : ℕ) (patches : List Patch) (core : Core) → StaysAt core (apply point p patches core)
stays_at point p [] core = goes core []
stays_at point p (q ∷ qs) core = stays_begun point p q qs core (stays_at point p qs) (patch_point q == p)

-- ---- the turn behind the patches

abbrev turn_by : Picture → State → Left → Bool → PatchedTurn
turn_by image s left b =
    elim b [
      | true ↦ record { notes = left.notes; outcome = Next (with_core s left.core) true }
      | false ↦ record { notes = left.notes; outcome = turn_of image (with_core s left.core) }
    ]

notes_by : (image : Picture) (s : State) (left : Left) (b : Bool) → (turn_by image s left b).notes ≡ left.notes
notes_by image s left true = refl
notes_by image s left false = refl

pub turn_notes : (image : Picture) (table : Table) (s : State) → (patched_turn image table s).notes ≡ (patches_left image table s).notes
turn_notes image table s = notes_by image s (patches_left image table s) ((patches_left image table s).acted)

pub turn_acted : (image : Picture) (table : Table) (s : State) → (patches_left image table s).acted ≡ true → (patched_turn image table s).outcome ≡ Next (patched_state image table s) true
turn_acted image table s is = ap (λ (b : Bool). (turn_by image s (patches_left image table s) b).outcome) is

ended_by : (image : Picture) (table : Table) (s : State) (end : End) (b : Bool) → (patches_left image table s).acted ≡ b → (patched_turn image table s).outcome ≡ Ended end → b ≡ false
ended_by image table s end true is ends = let acts = turn_acted image table s is in cc
ended_by image table s end false is ends = refl

sites_at : (end : End) (before core : Core) → IsAt before core → end_sites end before ≡ end_sites end core
sites_at (Failure id detail) before core at = rw (at.pc, at.frames) refl
sites_at _ before core at = refl

-- a turn that ends the run has the sites that stood before its patches
pub end_sites_kept : (image : Picture) (table : Table) (s : State) (end : End) → (patched_turn image table s).outcome ≡ Ended end → end_sites end s.core ≡ end_sites end (patched_state image table s).core
end_sites_kept image table s end ends =
    let left = patches_left image table s in
    sites_at end s.core left.core
    (stays_at (is_point image) s.core.pc table s.core (ended_by image table s end left.acted refl ends))

-- ---- what the code's patches leave

-- the patches at the core's pc, by the text's range
pub left_is : (image : Picture) (text : Range) (table last : Table) (core : Core) (m : Held) → text ≡ range_of image → table ≡ last → core ≡ m.core → left_at text table core ≡ patches_left image last (state_of m)
left_is image text table last core m range same lent =
    ap (λ (t : Range). left_at t table core) range
    ∙ ap (λ (t : Table). left_at (range_of image) t core) same
    ∙ ap (λ (c : Core). left_at (range_of image) last c) lent

pub noted_by : (image : Picture) (text : Range) (table last : Table) (core : Core) (m : Held) (old new : List TallyRow) → text ≡ range_of image → table ≡ last → core ≡ m.core
    → TallyGoesOn table old new (checks_in (left_at text table core).notes) → TallyGoesOn last old new (checks_in (patched_turn image last (state_of m)).notes)
noted_by image text table last core m old new range same lent goes_on =
    rw (turn_notes image last (state_of m), ← left_is image text table last core m range same lent, ← same) goes_on

pub fired_by : (image : Picture) (text : Range) (table last : Table) (core : Core) (m : Held) (old new : List FiredRow) → text ≡ range_of image → table ≡ last → core ≡ m.core
    → FiredGoesOn table old new (firings_in (left_at text table core).notes) → FiredGoesOn last old new (firings_in (patched_turn image last (state_of m)).notes)
fired_by image text table last core m old new range same lent goes_on =
    rw (turn_notes image last (state_of m), ← left_is image text table last core m range same lent, ← same) goes_on
