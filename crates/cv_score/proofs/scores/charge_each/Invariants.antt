use Rattle.std.proofs.Common.{◌≡◌, ℕ, ◌<◌, ◌≤◌, get_or}
use Rattle.cv_score.specs.declared.scores.Counts.{Counts}
use Rattle.cv_score.specs.Counting.{counted_with, has_failed, has_won}
use Rattle.cv_score.proofs.scores.charge_each.Given as goal

abbrev pub invariant-loop-repair : goal.invariant-loop-repair
invariant-loop-repair l = record {
  counted : (j : ℕ) → j < l.repair → (d : Counts) → get_or l.list j d ≡ counted_with (get_or l.initial.list j d) (has_won l.case j l.entry) (has_failed l.case l.id j l.last_has l.entry);
  left : (j : ℕ) → l.repair ≤ j → (d : Counts) → get_or l.list j d ≡ get_or l.initial.list j d;
}
