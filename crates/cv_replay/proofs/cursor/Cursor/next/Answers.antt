use Rattle.std.proofs.Common.{arith}
use Rattle.cv_replay.proofs.Leaving.{goes_on, used_below}
use Rattle.cv_replay.proofs.cursor.Cursor.next.Goals as goal

pub overflow_add-self : goal.overflow_add-self
overflow_add-self c =
    let below = used_below c.args.rows.now c.args.self.row c.args.self.used c.requires.left c.requires.cursor in
    omega arith

pub returns-clause-left : goal.returns-clause-left
returns-clause-left c = goes_on c.args.rows.now c.args.self.row c.args.self.used c.requires.left c.requires.cursor
