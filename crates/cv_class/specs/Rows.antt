-- What one more entry changes in the marks of a candidate, and the class that marks give
-- (docs/REPAIR.md, "Classes").
use Rattle.std.specs.Prelude.{◌≡◌, ◌<◌, ℕ, ◌&&◌, ◌||◌, ◌==◌, nat_lt, if◌then◌else◌, List, length, find, slice_index_or, Option}
use Rattle.cv_base.specs.declared.cases.Class.{Class}
use Rattle.cv_base.specs.declared.cases.Class.TheVariants.{Highly, Moderately, Slightly, Not}
use Rattle.cv_base.specs.declared.entries.TallyRow.{TallyRow}
use Rattle.cv_class.specs.declared.classes.Marks.{Marks}
use Rattle.cv_histories.specs.Classes.{last_failed, violations_of}

-- the row of candidate x of case c in a tally
abbrev pub row_in : ℕ → ℕ → List TallyRow → Option TallyRow
row_in c x tally = find (λ (r : TallyRow). (r.case == c) && (r.index == x)) tally

-- the marks with one more entry, in whose tally the candidate has this row
abbrev pub counted_with : Marks → Option TallyRow → Marks
counted_with m row = record {
  each_failed = m.each_failed && last_failed row;
  each_once = m.each_once && (last_failed row && (violations_of row == 1));
  some = m.some || nat_lt 0 (violations_of row);
  some_more = m.some_more || nat_lt 1 (violations_of row);
}

-- each candidate's marks have counted an entry with this tally
abbrev pub AllCounted : ℕ → List TallyRow → List Marks → List Marks → Type 0
AllCounted c tally old new =
    (x : ℕ) (d : Marks) → x < length old → slice_index_or new x d ≡ counted_with (slice_index_or old x d) (row_in c x tally)

-- the class by these marks
abbrev pub class_by : Marks → Class
class_by m =
    if m.each_once then Highly
    else if m.each_failed && m.some_more then Moderately
    else if m.some then Slightly
    else Not
