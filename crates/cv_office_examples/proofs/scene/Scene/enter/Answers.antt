use Rattle.cv_office_examples.proofs.InFlight.{flies_on, may_enter}
use Rattle.cv_office_examples.proofs.scene.Scene.enter.Goals as goal

-- src/flights.rt
pub adopt-requires-clause-may : goal.adopt-requires-clause-may
adopt-requires-clause-may g c =
    let e = c.enter-newest in
    may_enter c.args.self.now.plan.now c.args.pass.now e.new.self c.fetch.new.self c.args.ticket.now c.args.arena.now.going e.result c.in-Ok.table.value c.requires.flies e.ensures.entered e.ensures.rises.0 c.fetch.ensures.grown c.in-Ok.ensures.table

pub returns-clause-flies : goal.returns-clause-flies
returns-clause-flies g c =
    let e = c.enter-newest in
    flies_on c.args.self.now.plan.now c.args.pass.now e.new.self c.fetch.new.self c.args.ticket.now c.args.arena.now.going e.result c.in-Ok.table.value c.requires.flies e.ensures.entered e.ensures.rises.0 c.fetch.ensures.grown c.in-Ok.ensures.table
    c.adopt.new.self.going c.in-Ok-adopt.ensures.going
