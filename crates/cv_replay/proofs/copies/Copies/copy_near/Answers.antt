use Rattle.std.proofs.Common.{◌≤◌, ap, sym, subst, ◌∙◌}
use Rattle.cv_replay.specs.declared.walk.Walk.{Walk}
use Rattle.cv_replay.specs.Standing.{IsWalk, plan_of, turn_of}
use Rattle.cv_replay.proofs.copies.Copies.copy_near.Goals as goal

pub returns-clause-at : goal.returns-clause-at
returns-clause-at c =
    let near = c.nearest-nearest.ensures c.args.script.now c.requires.at c.requires.copies in
    subst (IsWalk c.args.script.now) (sym c.in_ok-walk.ensures) near.1

pub returns-clause-turn : goal.returns-clause-turn
returns-clause-turn c =
    let near = c.nearest-nearest.ensures c.args.script.now c.requires.at c.requires.copies in
    subst (λ (w : Walk). turn_of w.stand ≤ c.args.turn) (sym c.in_ok-walk.ensures) near.2

pub returns-clause-plan : goal.returns-clause-plan
returns-clause-plan c =
    let near = c.nearest-nearest.ensures c.args.script.now c.requires.at c.requires.copies in
    ap plan_of c.in_ok-walk.ensures ∙ near.0
