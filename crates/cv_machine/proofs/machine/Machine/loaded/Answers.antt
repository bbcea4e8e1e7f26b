use Rattle.std.proofs.Common.{ap, ◌∙◌}
use Rattle.std.specs.Result.{result_err}
use Rattle.cv_base.specs.Regions.{regions_of}
use Rattle.cv_mem.specs.Memory.{load_fault}
use Rattle.cv_machine.proofs.Faults.{err_of_load}
use Rattle.cv_machine.proofs.machine.Machine.loaded.Goals as goal

pub returns-clause-fault : goal.returns-clause-fault
returns-clause-fault c =
    ap result_err c.load.ensures.value
    ∙ err_of_load c.self.inside.space c.args.address c.args.size
    ∙ ap (λ rs. load_fault rs c.args.address c.args.size) (c.self.invariant.1 ∙ ap (λ h. regions_of h.image) c.self.view_is)
