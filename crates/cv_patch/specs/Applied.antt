-- What the patches at a pc answer (docs/REPAIR.md, "Patches").
use Rattle.std.specs.Prelude.{◌==◌, if◌then◌else◌, List, length}
use Rattle.cv_base.specs.declared.patches.Patch.{Patch}
use Rattle.cv_base.specs.Points.{Range, is_point_in}
use Rattle.cv_patch.specs.declared.applying.Applied.{Applied}
use Rattle.cv_patch.specs.declared.applying.Applied.TheVariants.{Go, Skipped, Returned}
use Rattle.cv_runs.specs.Apply.{Left, apply}
use Rattle.cv_shadow.specs.declared.frames.Core.{Core}

-- what the patches of a table at the core's pc leave, in a text
abbrev pub left_at : Range → List Patch → Core → Left
left_at text patches core = apply (is_point_in text.base text.count) core.pc patches core

-- whether they used up the turn, and by which action: a return alone takes a frame
abbrev pub applied : Core → Left → Applied
applied before left =
    if left.acted
    then (if length left.core.frames == length before.frames then Skipped else Returned)
    else Go
