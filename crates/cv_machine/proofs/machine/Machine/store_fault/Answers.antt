use Rattle.std.proofs.Common.{ap, ◌∙◌}
use Rattle.cv_base.specs.Regions.{regions_of}
use Rattle.cv_mem.specs.Memory.{store_fault}
use Rattle.cv_machine.proofs.machine.Machine.store_fault.Goals as goal

pub returns : goal.returns
returns c =
    c.store_fault.ensures
    ∙ ap (λ rs. store_fault rs c.args.address c.args.size) (c.self.invariant.1 ∙ ap (λ h. regions_of h.image) c.self.view_is)
