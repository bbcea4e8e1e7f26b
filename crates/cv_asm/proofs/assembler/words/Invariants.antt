use Rattle.std.proofs.Common.{◌≡◌, ◌≤◌, take}
use Rattle.cv_asm.specs.Labels.{read_lines}
use Rattle.cv_asm.specs.Lines.{instructions}
use Rattle.cv_asm.specs.Source.{words_of}
use Rattle.cv_asm.proofs.Stepping.{read_after, reading_from}
use Rattle.cv_asm.proofs.assembler.words.Given as goal

abbrev pub invariant-loop-i : goal.invariant-loop-i
invariant-loop-i l = record {
  so_far : read_after l.words.items (reading_from l.lines l.i) ≡ words_of (read_lines l.lines);
  counted : l.before ≡ instructions (read_lines (take l.i l.lines));
  few : l.before ≤ 65536;
}
