use Rattle.std.proofs.Common.{ap, ◌∙◌, arith}
use Rattle.cv_machine.proofs.Places.{base_fits}
use Rattle.cv_machine.proofs.machine.Machine.address_at.Goals as goal

pub overflow_add-result : goal.overflow_add-result
overflow_add-result c =
    let fits = base_fits _ _ c.args.at (ap (λ i. i.image) c.self-inside.view_is ∙ ap (λ h. h.image) c.self.view_is) c.self-inside.invariant c.requires in
    omega arith
