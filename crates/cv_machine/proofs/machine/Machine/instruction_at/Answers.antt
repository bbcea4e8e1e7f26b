use Rattle.std.proofs.Common.{ap}
use Rattle.cv_machine.proofs.Places.{instruction_at_place}
use Rattle.cv_machine.proofs.machine.Machine.instruction_at.Goals as goal

pub returns : goal.returns
returns c =
    instruction_at_place _ _ c.self.inside.insts.items c.args.at _ (ap (λ h. h.image) c.self.view_is) c.self.invariant.0 c.requires c.index.ensures
