use Rattle.std.proofs.Common.{◌≡◌, ◌<◌, ◌≤◌, ◌-◌, false, length}
use Rattle.cv_machine.specs.Held.{state_of}
use Rattle.cv_machine.specs.PlainTurns.{IsStretch, LeadTo}
use Rattle.cv_machine.specs.Quick.{state_at}
use Rattle.cv_machine.proofs.machine.Machine.quick_turns.Given as goal

abbrev pub invariant-turns : goal.invariant-turns
invariant-turns l = record {
  image : l.self.image ≡ l.fn.self.image;
  place : l.at < length l.self.image.words;
  within : l.turns ≤ l.most;
  leads : LeadTo l.fn.self.image l.turns (state_of l.fn.self) (state_at l.self l.at);
  straight : l.far ≡ false → IsStretch l.fn.self.image l.turns (state_of l.fn.self) (state_at l.self l.at) false;
}

abbrev pub decreases-turns : goal.decreases-turns
decreases-turns l = l.most - l.turns
