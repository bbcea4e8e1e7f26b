use Rattle.std.proofs.Common.{◌∙◌, ap}
use Rattle.cv_world.specs.InstanceOf.{InstanceOf}
use Rattle.cv_world.proofs.Holding.{begins, none_kept}
use Rattle.cv_world.proofs.instance.Instance.begin.Goals as goal

pub invariant_of-self-2 : goal.invariant_of-self-2
invariant_of-self-2 c =
    begins c.self.inside.arena c.start.new.self c.self.inside.kept c.args.run c.args.worker
    (ap (λ (i : InstanceOf). i.going) c.self.view_is ∙ c.requires.none) c.in_ok-start.ensures.going

pub returns-clause-flight : goal.returns-clause-flight
returns-clause-flight c =
    let none = none_kept c.self.inside.kept c.self.inside.arena.going (ap (λ (i : InstanceOf). i.going) c.self.view_is ∙ c.requires.none) in
    rw (← c.self.view_is, none) c.in_ok-start.ensures.flight
