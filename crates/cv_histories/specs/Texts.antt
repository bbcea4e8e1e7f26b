-- The texts of actions, classes and rows (docs/FORMATS.md, "Text forms").
use Rattle.std.specs.Prelude.{ℕ, Bool, true, false, List, ◌++◌, codes, Option, Some, None}
use Rattle.std.specs.Fmt.{decimal}
use Rattle.cv_base.specs.declared.cases.Class.{Class}
use Rattle.cv_base.specs.declared.cases.Class.TheVariants.{Highly, Moderately, Slightly, Not}
use Rattle.cv_base.specs.declared.entries.Adopted.{Adopted}
use Rattle.cv_base.specs.declared.entries.FiredRow.{FiredRow}
use Rattle.cv_base.specs.declared.entries.TallyRow.{TallyRow}
use Rattle.cv_base.specs.declared.patches.Action.{Action}
use Rattle.cv_base.specs.declared.patches.Action.TheVariants.{SetConst, SetCopy, SetSp, Skip, Return}
use Rattle.cv_base.specs.declared.plan.Mode.{Mode}
use Rattle.cv_base.specs.declared.plan.Mode.TheVariants.{Learn, Live}
use Rattle.cv_base.specs.InvariantText.{register_text}
use Rattle.cv_base.specs.Text.{address_text}

abbrev pub action_text : Action → List ℕ
action_text (SetConst reg value) = codes "set " ++ register_text reg ++ codes " " ++ address_text value
action_text (SetCopy reg source) = codes "copy " ++ register_text reg ++ codes " " ++ register_text source
action_text (SetSp offset) = codes "set-sp " ++ address_text offset
action_text Skip = codes "skip"
action_text (Return offset) = codes "return " ++ address_text offset

abbrev pub class_text : Option Class → List ℕ
class_text None = codes "pending"
class_text (Some Highly) = codes "highly"
class_text (Some Moderately) = codes "moderately"
class_text (Some Slightly) = codes "slightly"
class_text (Some Not) = codes "not"

abbrev pub mode_text : Mode → List ℕ
mode_text Learn = codes "learn"
mode_text Live = codes "live"

abbrev pub adopted_text : Adopted → List ℕ
adopted_text a = decimal a.version ++ codes ":" ++ decimal a.entries

abbrev pub held_text : Bool → List ℕ
held_text true = codes "held"
held_text false = codes "failed"

abbrev pub tally_text : TallyRow → List ℕ
tally_text r =
    decimal r.case ++ codes "." ++ decimal r.index ++ codes ":" ++ decimal r.checks ++ codes ":" ++ decimal r.violations
    ++ codes ":" ++ held_text r.last_held

abbrev pub fired_text : FiredRow → List ℕ
fired_text r = decimal r.case ++ codes "." ++ decimal r.index ++ codes ":" ++ decimal r.count
