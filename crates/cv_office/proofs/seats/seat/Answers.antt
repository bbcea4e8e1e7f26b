use Rattle.std.proofs.Common.{ap, sym, subst, arith}
use Rattle.cv_office.proofs.Moves.{new_is_pass, seats}
use Rattle.cv_office.proofs.seats.seat.Goals as goal
use Rattle.cv_office.specs.Told.{IsPass}

-- src/seats.rt
pub split_seat-requires : goal.split_seat-requires
split_seat-requires g c = (
  c.requires.board.1,
  (let two = c.requires.board.0 in omega arith),
  seats c.seat_keeps.ensures (g.C.Opens.opening c.args.board.now.shared.key) c.args.master.now.id c.args.master.now.me.0 c.requires.master.role c.requires.master.hand c.requires.absent,
)

pub returns-clause-pass : goal.returns-clause-pass
returns-clause-pass g c = subst IsPass (sym (ap (λ m. m.0) c.split_seat.ensures.4)) (new_is_pass c.args.master.now.me.0)
