use Rattle.std.proofs.Common.{◌≡◌, ◌≤◌, take}
use Rattle.cv_asm.specs.Labels.{AreLabels, read_lines}
use Rattle.cv_asm.specs.Lines.{instructions}
use Rattle.cv_asm.proofs.labels.labels.Given as goal

abbrev pub invariant-loop-i : goal.invariant-loop-i
invariant-loop-i l = record {
  known : AreLabels (read_lines (take l.i l.lines)) l.labels;
  counted : l.before ≡ instructions (read_lines (take l.i l.lines));
  few : l.before ≤ l.i;
}
