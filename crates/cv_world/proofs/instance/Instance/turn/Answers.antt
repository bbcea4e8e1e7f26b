use Rattle.std.proofs.Common.{◌∙◌, ap}
use Rattle.cv_exec.specs.ArenaOf.{is_over}
use Rattle.cv_world.specs.InstanceOf.{InstanceOf}
use Rattle.cv_world.proofs.Holding.{going_kept, turns_on}
use Rattle.cv_world.proofs.instance.Instance.turn.Goals as goal

pub invariant_of-self-2 : goal.invariant_of-self-2
invariant_of-self-2 c =
    turns_on c.self.inside.arena c.step.new.self c.self.inside.flying c.self.inside.kept c.self.invariant
    (ap (λ (i : InstanceOf). is_over i.plan i.going) c.self.view_is ∙ c.requires.goes_on) c.in_ok-step.ensures.turned

pub returns-clause-flight : goal.returns-clause-flight
returns-clause-flight c =
    let none = going_kept c.self.inside.arena c.self.inside.flying c.self.inside.kept c.self.invariant (ap (λ (i : InstanceOf). is_over i.plan i.going) c.self.view_is ∙ c.requires.goes_on) in
    rw (← c.self.view_is, none) c.in_ok-step.ensures.flight
