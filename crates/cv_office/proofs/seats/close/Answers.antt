use Rattle.cv_office.proofs.Moves.{closes}
use Rattle.cv_office.proofs.seats.close.Goals as goal

-- src/seats.rt
pub returns : goal.returns
returns g c = λ o alone. closes c.past_runs.ensures c.close_has_runs.ensures (g.C.Opens.opening c.args.board.shared.key) o _ _ c.args.master.id c.args.master.me.0 alone c.close_with-closed.ensures.values.2
