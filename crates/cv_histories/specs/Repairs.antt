-- The repairs of a case (docs/REPAIR.md, "Repairs").
use Rattle.std.specs.Prelude.{ℕ, Bool, true, false, ◌&&◌, ◌==◌, ◌+◌, if◌then◌else◌, List, [], ◌∷◌, ◌++◌, filter, map, Option, Some, None}
use Rattle.std.specs.List.{flat_map}
use Rattle.cv_base.specs.declared.cases.Case.{Case}
use Rattle.cv_base.specs.declared.cases.Class.{Class}
use Rattle.cv_base.specs.declared.cases.Class.TheVariants.{Highly, Moderately}
use Rattle.cv_base.specs.declared.cases.Repair.{Repair}
use Rattle.cv_base.specs.declared.invariants.Invariant.{Invariant}
use Rattle.cv_base.specs.declared.invariants.Invariant.TheVariants.{OneOf, Lower, LessThan, SpOffset}
use Rattle.cv_base.specs.declared.patches.Action.{Action}
use Rattle.cv_base.specs.declared.patches.Action.TheVariants.{SetConst, SetCopy, SetSp, Skip, Return}
use Rattle.cv_base.specs.Picture.{Picture}
use Rattle.cv_base.specs.PlanOf.{PlanOf}
use Rattle.cv_isa.specs.declared.operation.Op.{Op}
use Rattle.cv_isa.specs.declared.operation.Op.TheVariants as op
use Rattle.cv_isa.specs.Instruction.{Instruction}
use Rattle.cv_isa.specs.Uses.{is_link}
use Rattle.cv_runs.specs.Invariants.{names, point_of}
use Rattle.cv_runs.specs.Text.{inst_at, reads}
use Rattle.cv_histories.specs.Classes.{class_over, first_checked, is_decided}
use Rattle.cv_histories.specs.Seen.{Seen}

-- what restores an invariant
abbrev pub sets_of : Picture → Invariant → List Action
sets_of image (OneOf point reg values) = map (λ value. SetConst reg value) values
sets_of image (Lower point reg bound) = SetConst reg bound ∷ []
sets_of image (LessThan point low high) =
    (if reads (inst_at image point) low then SetCopy low high else SetCopy high low) ∷ []
sets_of image (SpOffset point offset) = SetSp offset ∷ []

-- a call by a register that the invariant names can be passed over
abbrev pub is_named_call : Invariant → Instruction → Op → Bool
is_named_call k i op.Jalr = is_link i.rd && names k i.rs1
is_named_call k i _ = false

abbrev pub skips_of : Invariant → Option Instruction → List Action
skips_of k None = []
skips_of k (Some i) = if is_named_call k i i.op then Skip ∷ [] else []

-- the offset of sp at a point, where some candidate tells it
abbrev pub offset_at : ℕ → List Invariant → Option ℕ
offset_at p [] = None
offset_at p (SpOffset point offset ∷ rest) = if point == p then Some offset else offset_at p rest
offset_at p (_ ∷ rest) = offset_at p rest

abbrev pub returns_of : Option ℕ → List Action
returns_of None = []
returns_of (Some offset) = Return offset ∷ []

-- the procedure can be left early where the offset of sp is known
abbrev pub early_returns : List Invariant → Invariant → List Action
early_returns candidates (SpOffset point offset) = []
early_returns candidates k = returns_of (offset_at (point_of k) candidates)

-- the actions for a candidate: its sets, then Skip, then Return
abbrev pub actions_of : Picture → List Invariant → Invariant → List Action
actions_of image candidates k =
    sets_of image k ++ skips_of k (inst_at image (point_of k)) ++ early_returns candidates k

abbrev pub is_highly : Class → Bool
is_highly Highly = true
is_highly _ = false

abbrev pub is_moderately : Class → Bool
is_moderately Moderately = true
is_moderately _ = false

-- a candidate with its number and class
pub record Judged : Type 0 where
  pub index : ℕ
  pub invariant : Invariant
  pub class : Class

abbrev pub judged_from : ℕ → ℕ → List Seen → List Invariant → List Judged
judged_from c x seen [] = []
judged_from c x seen (k ∷ ks) = record { index = x; invariant = k; class = class_over c x seen } ∷ judged_from c (x + 1) seen ks

-- the highly correlated candidates, or else the moderately correlated ones
abbrev pub or_else : List Judged → List Judged → List Judged
or_else [] others = others
or_else (j ∷ js) others = j ∷ js

abbrev pub chosen : List Judged → List Judged
chosen judged =
    or_else (filter (λ (j : Judged). is_highly j.class) judged) (filter (λ (j : Judged). is_moderately j.class) judged)

abbrev pub repairs_for : Picture → List Invariant → List Judged → List Repair
repairs_for image candidates judged =
    flat_map (λ (j : Judged). map (λ action. record { candidate = j.index; action = action }) (actions_of image candidates j.invariant)) judged

-- the repairs of case c, from its last checked failure on that counts
abbrev pub repairs_of : PlanOf → ℕ → Case → List Seen → List Repair
repairs_of plan c case past =
    elim (is_decided plan c case past) [
      | true ↦ repairs_for plan.image case.candidates (chosen (judged_from c 0 (first_checked plan c case past) case.candidates))
      | false ↦ []
    ]
