use Rattle.std.proofs.Common.{◌≡◌, ◌<◌, ◌^◌, drop}
use Rattle.std.specs.List.{list_all}
use Rattle.clearview.specs.Words.{is_digit, number_from}
use Rattle.clearview.proofs.words.number_in.Given as goal

abbrev pub invariant-loop-digit : goal.invariant-loop-digit
invariant-loop-digit l = record {
  small : l.value < 2 ^ 64;
  number : number_from l.value (drop l.digit-index l.digits) ≡ number_from 0 l.digits;
  rest : list_all is_digit (drop l.digit-index l.digits) ≡ list_all is_digit l.digits;
}
