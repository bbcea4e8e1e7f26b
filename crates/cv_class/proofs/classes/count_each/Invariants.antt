use Rattle.std.proofs.Common.{◌≡◌, ℕ, ◌<◌, ◌≤◌, get_or}
use Rattle.cv_class.specs.declared.classes.Marks.{Marks}
use Rattle.cv_class.specs.Rows.{counted_with, row_in}
use Rattle.cv_class.proofs.classes.count_each.Given as goal

abbrev pub invariant-loop-candidate : goal.invariant-loop-candidate
invariant-loop-candidate l = record {
  counted : (x : ℕ) → x < l.candidate → (d : Marks) → get_or l.list x d ≡ counted_with (get_or l.initial.list x d) (row_in l.case x l.tally);
  left : (x : ℕ) → l.candidate ≤ x → (d : Marks) → get_or l.list x d ≡ get_or l.initial.list x d;
}
