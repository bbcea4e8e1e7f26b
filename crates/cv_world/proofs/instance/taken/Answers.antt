use Rattle.std.proofs.Common.{◌≡◌, ◌∙◌, true, sym, subst}
use Rattle.cv_exec.specs.ArenaOf.{is_over}
use Rattle.cv_world.specs.InstanceOf.{going_in}
use Rattle.cv_world.proofs.Finishing.{finished_by}
use Rattle.cv_world.proofs.instance.taken.Goals as goal

pub returns-in-None-clause-finished : goal.returns-in-None-clause-finished
returns-in-None-clause-finished c =
    let arena = c.args.arena.now in
    finished_by c.finish.result arena c.finish.new.self
    (subst (λ k. is_over arena.plan (going_in k arena.going) ≡ true) (sym c.take.ensures.value ∙ c.in-None.is) c.requires.over)
    c.finish.ensures.entry c.finish.ensures.going c.finish.ensures.observed c.finish.ensures.kept
