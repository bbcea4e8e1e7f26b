use Rattle.std.proofs.Common.{◌≡◌, ◌<◌, drop}
use Rattle.cv_journal.specs.Reading.{hex_behind}
use Rattle.cv_journal.proofs.HexLaw.{limit}
use Rattle.cv_journal.proofs.numbers.hex_number.Given as goal

abbrev pub invariant-loop-byte : goal.invariant-loop-byte
invariant-loop-byte l = record {
  value : hex_behind l.number (drop l.byte-index l.text) ≡ hex_behind 0 l.text;
  small : l.number < limit l.byte-index;
}
