use Rattle.std.proofs.Common.{◌≡◌, ◌≤◌, drop}
use Rattle.cv_resume.specs.Kept.{entries_behind, entries_of}
use Rattle.cv_resume.proofs.reading.entries_of.Given as goal

abbrev pub invariant-loop-number : goal.invariant-loop-number
invariant-loop-number l = record {
  so_far : entries_behind l.number l.entries (drop l.number l.pieces) ≡ entries_of l.pieces;
  few : l.number ≤ 1024;
}
