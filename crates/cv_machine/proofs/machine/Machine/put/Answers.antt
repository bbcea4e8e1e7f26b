use Rattle.std.proofs.Common.{ap, ◌∙◌}
use Rattle.cv_base.specs.Regions.{regions_of}
use Rattle.cv_mem.specs.Memory.{store_fault}
use Rattle.cv_machine.proofs.machine.Machine.put.Goals as goal

pub put-requires-clause-allowed : goal.put-requires-clause-allowed
put-requires-clause-allowed c =
    ap (λ rs. store_fault rs c.args.address c.args.size) (c.self.invariant.1 ∙ ap (λ h. regions_of h.image) c.self.view_is)
    ∙ c.requires.allowed
