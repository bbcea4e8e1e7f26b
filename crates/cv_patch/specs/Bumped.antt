-- Rows with one more note in them, and whether they have room for it.
use Rattle.std.specs.Prelude.{ℕ, Bool, not, ◌&&◌, ◌||◌, ◌==◌, ◌+◌, nat_lt, if◌then◌else◌, List, map}
use Rattle.std.specs.List.{list_all}
use Rattle.cv_base.specs.declared.entries.FiredRow.{FiredRow}
use Rattle.cv_base.specs.declared.entries.TallyRow.{TallyRow}

abbrev pub is_of : ℕ → ℕ → TallyRow → Bool
is_of case index r = (r.case == case) && (r.index == index)

abbrev pub is_fired_of : ℕ → ℕ → FiredRow → Bool
is_fired_of case index r = (r.case == case) && (r.index == index)

abbrev pub checked_once_more : Bool → TallyRow → TallyRow
checked_once_more held r =
    record r { checks = r.checks + 1; violations = if held then r.violations else r.violations + 1; last_held = held }

abbrev pub fired_once_more : FiredRow → FiredRow
fired_once_more r = record r { count = r.count + 1 }

abbrev pub with_check : ℕ → ℕ → Bool → List TallyRow → List TallyRow
with_check case index held rows = map (λ (r : TallyRow). if is_of case index r then checked_once_more held r else r) rows

abbrev pub with_firing : ℕ → ℕ → List FiredRow → List FiredRow
with_firing case index rows = map (λ (r : FiredRow). if is_fired_of case index r then record r { count = r.count + 1 } else r) rows

-- the row of a candidate, or of a repair, is not at its end
abbrev pub has_check_room : ℕ → ℕ → List TallyRow → Bool
has_check_room case index rows = list_all (λ (r : TallyRow). not (is_of case index r) || nat_lt r.checks 4294967295) rows

abbrev pub has_firing_room : ℕ → ℕ → List FiredRow → Bool
has_firing_room case index rows = list_all (λ (r : FiredRow). not (is_fired_of case index r) || nat_lt r.count 4294967295) rows
