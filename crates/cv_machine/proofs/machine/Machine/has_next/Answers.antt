use Rattle.std.proofs.Common.{ap, ◌∙◌}
use Rattle.cv_machine.proofs.Places.{next_point_of, next_address_of}
use Rattle.cv_machine.proofs.machine.Machine.has_next.Goals as goal

pub returns-clause-point : goal.returns-clause-point
returns-clause-point c = λ h.
    next_point_of _ _ c.args.at c.len.result (ap (λ i. i.image) c.self-inside.view_is ∙ ap (λ h. h.image) c.self.view_is) c.self-inside.invariant c.len.ensures h

pub returns-clause-next : goal.returns-clause-next
returns-clause-next c = λ h.
    next_address_of _ _ c.args.at (ap (λ i. i.image) c.self-inside.view_is ∙ ap (λ h. h.image) c.self.view_is) c.self-inside.invariant c.requires
