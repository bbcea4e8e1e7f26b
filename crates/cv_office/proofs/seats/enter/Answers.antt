use Rattle.std.proofs.Common.{sym, subst, arith}
use Rattle.cv_office.proofs.Moves.{entered_pass, enters}
use Rattle.cv_office.proofs.seats.enter.Goals as goal
use Rattle.cv_office.specs.Told.{IsPass}
use Rattle.cv_rule.specs.Steps.{worker_of}

-- src/seats.rt
pub load-requires : goal.load-requires
load-requires g c =
    let v = c.args.pass.now.me.0 in (
      c.requires.board.1,
      (let two = c.requires.board.0 in omega arith),
      enters c.enter_keeps.ensures (g.C.Opens.opening c.args.board.now.shared.key) c.args.board.now.shared.table_id.slots c.args.pass.now.id (worker_of v.role) v c.args.pass.now.me.1 c.requires.pass.role,
    )

pub returns-clause-pass : goal.returns-clause-pass
returns-clause-pass g c =
    let told = c.load.ensures.2 in
    subst (λ (v : _). IsPass v) (sym told.view) (entered_pass c.within_grows.ensures c.args.pass.now.me.0 c.load.result c.requires.pass told.new)
