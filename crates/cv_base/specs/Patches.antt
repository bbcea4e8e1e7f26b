-- Which patches and tables there are (docs/REPAIR.md, "Patches").
use Rattle.std.specs.Prelude.{Bool, true, false, not, ◌&&◌, ◌==◌, List, [], ◌∷◌}
use Rattle.std.specs.List.{list_all, list_any}
use Rattle.cv_base.specs.declared.patches.Action.{Action}
use Rattle.cv_base.specs.declared.patches.Action.TheVariants.{SetConst, SetCopy, SetSp, Skip, Return}
use Rattle.cv_base.specs.declared.patches.Patch.{Patch}
use Rattle.cv_base.specs.declared.patches.Patch.TheVariants.{Check, Enforce}
use Rattle.cv_base.specs.Invariants.{is_register, is_invariant}

-- an action names registers from x1 to x31
abbrev pub is_action : Action → Bool
is_action (SetConst reg value) = is_register reg
is_action (SetCopy reg source) = is_register reg && is_register source
is_action (SetSp offset) = true
is_action Skip = true
is_action (Return offset) = true

abbrev pub is_patch : Patch → Bool
is_patch (Check case index invariant) = is_invariant invariant
is_patch (Enforce case index invariant action) = is_invariant invariant && is_action action

-- two checks of one candidate, or two enforcements of one repair
abbrev pub is_twin : Patch → Patch → Bool
is_twin (Check case index invariant) (Check other_case other invariant_too) = (case == other_case) && (index == other)
is_twin (Enforce case index invariant action) (Enforce other_case other invariant_too action_too) = (case == other_case) && (index == other)
is_twin _ _ = false

abbrev pub has_no_twins : List Patch → Bool
has_no_twins [] = true
has_no_twins (p ∷ ps) = not (list_any (is_twin p) ps) && has_no_twins ps

-- a candidate is checked once at most, and a repair enforced once
abbrev pub is_table : List Patch → Bool
is_table patches = list_all is_patch patches && has_no_twins patches
