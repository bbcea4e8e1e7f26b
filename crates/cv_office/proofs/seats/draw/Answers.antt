use Rattle.std.proofs.Common.{arith}
use Rattle.cv_office.proofs.Moves.{draws}
use Rattle.cv_office.proofs.seats.draw.Goals as goal
use Rattle.cv_rule.specs.Steps.{worker_of}

-- src/seats.rt
pub fetch_add-requires : goal.fetch_add-requires
fetch_add-requires g c =
    let v = c.args.pass.now.me.0 in (
      c.requires.board.1,
      (let two = c.requires.board.0 in omega arith),
      draws c.draw_keeps.ensures c.draws_are_few.ensures (g.C.Opens.opening c.args.board.now.shared.key) c.args.board.now.shared.table_id.slots c.args.pass.now.id (worker_of v.role) v c.args.pass.now.me.1 c.requires.pass.role c.requires.waiting.0 c.requires.waiting.1,
    )
