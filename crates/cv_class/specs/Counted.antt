-- What is kept of checked failures, for each candidate of a case (docs/REPAIR.md, "Classes").
use Rattle.std.specs.Prelude.{◌≡◌, ◌<◌, ℕ, ◌&&◌, ◌==◌, nat_lt, List, length, Some, slice_get}
use Rattle.std.specs.List.{list_all, list_any}
use Rattle.cv_class.specs.declared.classes.Marks.{Marks}
use Rattle.cv_histories.specs.Classes.{last_failed, row_of, violations_of}
use Rattle.cv_histories.specs.Seen.{Seen}

-- the marks of candidate x of case c over some entries: whether in each of them the last check
-- failed, and that with exactly one violation; and whether in some there was a violation, and more
-- than one
abbrev pub marks_of : ℕ → ℕ → List Seen → Marks
marks_of c x seen = record {
  each_failed = list_all (λ s. last_failed (row_of c x s)) seen;
  each_once = list_all (λ s. last_failed (row_of c x s) && (violations_of (row_of c x s) == 1)) seen;
  some = list_any (λ s. nat_lt 0 (violations_of (row_of c x s))) seen;
  some_more = list_any (λ s. nat_lt 1 (violations_of (row_of c x s))) seen;
}

-- the marks of each candidate of a case
pub record ClassesOf : Type 0 where
  pub case : ℕ
  pub marks : List Marks

-- the marks are those of these entries
abbrev pub StandsFor : ClassesOf → List Seen → Type 0
StandsFor k seen = (x : ℕ) → x < length k.marks → slice_get k.marks x ≡ Some (marks_of k.case x seen)
