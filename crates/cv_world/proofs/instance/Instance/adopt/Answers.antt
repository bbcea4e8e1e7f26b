use Rattle.std.proofs.Common.{◌∙◌, ap}
use Rattle.cv_exec.specs.ArenaOf.{wants}
use Rattle.cv_world.specs.InstanceOf.{InstanceOf}
use Rattle.cv_world.proofs.Holding.{enters_by, wanting_kept}
use Rattle.cv_world.proofs.instance.Instance.adopt.Goals as goal

pub invariant_of-self : goal.invariant_of-self
invariant_of-self c =
    enters_by c.adopt.result c.self.inside.arena c.adopt.new.self c.self.inside.flying c.self.inside.kept c.args.version c.args.table.value c.self.invariant
    (ap (λ (i : InstanceOf). wants i.plan i.going) c.self.view_is ∙ c.requires.wanted)
    c.adopt.ensures.going c.adopt.ensures.err

pub returns-clause-flight : goal.returns-clause-flight
returns-clause-flight c =
    let none = wanting_kept c.self.inside.arena c.self.inside.flying c.self.inside.kept c.self.invariant (ap (λ (i : InstanceOf). wants i.plan i.going) c.self.view_is ∙ c.requires.wanted) in
    rw (← c.self.view_is, none) c.adopt.ensures.flight
