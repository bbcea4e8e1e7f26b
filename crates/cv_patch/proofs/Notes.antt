-- The notes of one patch: a check where it checks, and a firing at most where it enforces.
use Rattle.std.proofs.Common.{◌≡◌, ℕ, Bool, true, false, cond, List, [], ◌∷◌, ◌∙◌, refl, ap}
use Rattle.cv_base.specs.declared.invariants.Invariant.{Invariant}
use Rattle.cv_base.specs.declared.patches.Action.{Action}
use Rattle.cv_base.specs.declared.patches.Action.TheVariants.{SetConst, SetCopy, SetSp, Skip, Return}
use Rattle.cv_base.specs.declared.patches.Patch.TheVariants.{Enforce}
use Rattle.cv_histories.specs.Rows.{FiredNote, checks_in, firings_in}
use Rattle.cv_runs.specs.Apply.{Note, Fired, act, returned, acted_with, went_on, one_patch, core_holds}
use Rattle.cv_runs.specs.Arithmetic.{plus32}
use Rattle.cv_shadow.specs.declared.frames.Core.{Core}
use Rattle.cv_shadow.specs.declared.frames.Frame.{Frame}

-- the notes of an enforcement
abbrev pub fired_notes : Bool → ℕ → ℕ → List Note
fired_notes held case index = cond held [] (Fired case index ∷ [])

-- the firing of an enforcement
abbrev pub fired_once : Bool → ℕ → ℕ → List FiredNote
fired_once held case index = cond held [] (record { case = case; index = index } ∷ [])

one_firing : (held : Bool) (case index : ℕ) → firings_in (fired_notes held case index) ≡ fired_once held case index
one_firing true case index = refl
one_firing false case index = refl

no_checks : (held : Bool) (case index : ℕ) → checks_in (fired_notes held case index) ≡ []
no_checks true case index = refl
no_checks false case index = refl

module _ (point : ℕ → Bool) where
  either_notes : (b : Bool) (x y : Core) (notes : List Note) → (cond b (acted_with x notes) (went_on y notes)).notes ≡ notes
  either_notes true x y notes = refl
  either_notes false x y notes = refl

  returned_notes : (offset : ℕ) (core : Core) (frames : List Frame) (notes : List Note) → (returned point offset core frames notes).notes ≡ notes
  returned_notes offset core [] notes = refl
  returned_notes offset core (f ∷ fs) notes = either_notes (point f.back) _ core notes

  act_notes : (action : Action) (core : Core) (notes : List Note) → (act point action core notes).notes ≡ notes
  act_notes (SetConst reg value) core notes = refl
  act_notes (SetCopy reg source) core notes = refl
  act_notes (SetSp offset) core notes = refl
  act_notes Skip core notes = either_notes (point (plus32 core.pc 4)) _ core notes
  act_notes (Return offset) core notes = returned_notes offset core core.frames notes

  enforced_notes : (held : Bool) (case index : ℕ) (action : Action) (core : Core) → (cond held (went_on core []) (act point action core (Fired case index ∷ []))).notes ≡ fired_notes held case index
  enforced_notes true case index action core = refl
  enforced_notes false case index action core = act_notes action core (Fired case index ∷ [])

  enforce_notes : (case index : ℕ) (k : Invariant) (action : Action) (core : Core) → (one_patch point (Enforce case index k action) core).notes ≡ fired_notes (core_holds k core) case index
  enforce_notes case index k action core = enforced_notes (core_holds k core) case index action core

  pub enforce_checks : (case index : ℕ) (k : Invariant) (action : Action) (core : Core) → checks_in (one_patch point (Enforce case index k action) core).notes ≡ []
  enforce_checks case index k action core = ap checks_in (enforce_notes case index k action core) ∙ no_checks (core_holds k core) case index

  pub enforce_firings : (case index : ℕ) (k : Invariant) (action : Action) (core : Core) → firings_in (one_patch point (Enforce case index k action) core).notes ≡ fired_once (core_holds k core) case index
  enforce_firings case index k action core = ap firings_in (enforce_notes case index k action core) ∙ one_firing (core_holds k core) case index
