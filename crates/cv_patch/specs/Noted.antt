-- Rows with the notes of one patch in them, and whether they have room for it.
use Rattle.std.specs.Prelude.{Bool, true, List, [], ◌∷◌}
use Rattle.cv_base.specs.declared.entries.FiredRow.{FiredRow}
use Rattle.cv_base.specs.declared.entries.TallyRow.{TallyRow}
use Rattle.cv_base.specs.declared.patches.Patch.{Patch}
use Rattle.cv_base.specs.declared.patches.Patch.TheVariants.{Check, Enforce}
use Rattle.cv_histories.specs.Rows.{CheckNote, FiredNote}
use Rattle.cv_patch.specs.Bumped.{has_check_room, has_firing_room, with_check, with_firing}

abbrev pub with_checks : List CheckNote → List TallyRow → List TallyRow
with_checks [] rows = rows
with_checks (c ∷ checks) rows = with_checks checks (with_check c.case c.index c.held rows)

abbrev pub with_firings : List FiredNote → List FiredRow → List FiredRow
with_firings [] rows = rows
with_firings (f ∷ firings) rows = with_firings firings (with_firing f.case f.index rows)

abbrev pub has_its_check_room : List TallyRow → Patch → Bool
has_its_check_room rows (Check case index invariant) = has_check_room case index rows
has_its_check_room rows (Enforce case index invariant action) = true

abbrev pub has_its_firing_room : List FiredRow → Patch → Bool
has_its_firing_room rows (Check case index invariant) = true
has_its_firing_room rows (Enforce case index invariant action) = has_firing_room case index rows
