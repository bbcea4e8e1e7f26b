use Rattle.std.proofs.Common.{arith}
use Rattle.cv_office.proofs.Moves.{books}
use Rattle.cv_office.proofs.seats.book.Goals as goal

-- src/seats.rt
pub load-requires : goal.load-requires
load-requires g c =
    let run = c.requires.holding.run in (
      c.requires.board.1,
      (let two = c.requires.board.0 in omega arith),
      books c.book_keeps.ensures (g.C.Opens.opening c.args.board.now.shared.key) c.args.board.now.shared.table_id.slots c.args.master.now.id c.args.master.now.me.0 c.args.master.now.me.1 run.0 c.requires.holding.role run.1 run.2,
    )
