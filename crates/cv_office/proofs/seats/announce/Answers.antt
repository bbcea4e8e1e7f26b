use Rattle.std.proofs.Common.{◌∙◌, ap, sym, arith}
use mathlib.Core.Option.{some-injective}
use Rattle.cv_office.proofs.Moves.{announces}
use Rattle.cv_office.proofs.seats.announce.Goals as goal
use Rattle.cv_rule.specs.Steps.{announced}

-- src/seats.rt
pub compare_exchange_with-requires : goal.compare_exchange_with-requires
compare_exchange_with-requires g c =
    let run = c.requires.holding.run in (
      c.requires.board.1,
      (let two = c.requires.board.0 in omega arith),
      announces c.announce_keeps.ensures (g.C.Opens.opening c.args.board.now.shared.key) c.args.board.now.shared.table_id.slots c.args.master.now.id c.args.master.now.me.0 c.args.master.now.me.1 run.0 c.args.table.now c.args.count c.requires.holding.role run.1 run.2 c.requires.count c.requires.room,
    )

pub returns-clause-announced : goal.returns-clause-announced
returns-clause-announced g c =
    let told = c.compare_exchange_with.ensures.2 in
    told.view ∙ ap (λ t. announced c.args.master.now.me.0 t) (sym (some-injective c.args.table.now told.table told.said))
