-- What one patch leaves, and one action, in a text.
use Rattle.std.specs.Prelude.{List}
use Rattle.cv_base.specs.declared.patches.Action.{Action}
use Rattle.cv_base.specs.declared.patches.Patch.{Patch}
use Rattle.cv_base.specs.Points.{Range, is_point_in}
use Rattle.cv_runs.specs.Apply.{Left, Note, act, one_patch}
use Rattle.cv_shadow.specs.declared.frames.Core.{Core}

abbrev pub left_by : Range → Patch → Core → Left
left_by text patch core = one_patch (is_point_in text.base text.count) patch core

abbrev pub left_by_action : Range → Action → Core → List Note → Left
left_by_action text action core notes = act (is_point_in text.base text.count) action core notes
