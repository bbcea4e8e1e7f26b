use Rattle.std.proofs.Common.{◌≡◌, ◌∙◌, ap, subst, arith}
use Rattle.cv_office.proofs.Moves.{ends, renews}
use Rattle.cv_office.proofs.seats.end.Goals as goal
use Rattle.cv_office.specs.Told.{IsToldBoth}
use Rattle.cv_rule.specs.Steps.{worker_of}
use Rattle.cv_rule.specs.declared.view.Role.TheVariants.{Master}

-- src/seats.rt
pub join_seat-requires : goal.join_seat-requires
join_seat-requires g c = (
  c.requires.board.2,
  c.requires.board.1,
  c.requires.pass.1,
  (let two = c.requires.board.0 in omega arith),
  ends c.end_keeps.ensures (g.C.Opens.opening c.args.board.now.shared.key) c.args.master.now.id c.args.pass.id (worker_of c.args.pass.me.0.role) c.args.master.now.me.0 c.args.pass.me.0 c.requires.master c.requires.pass.0.role c.requires.done.0 c.requires.done.1,
)

pub load-requires : goal.load-requires
load-requires g c =
    let j = c.join_seat.ensures in
    let v = c.join_seat.new.seat.me.0 in
    let role : v.role ≡ Master = ap (λ m. m.0.role) j.2 ∙ c.requires.master in (
      j.0 ∙ c.requires.board.2,
      (let two = c.requires.board.0 in omega arith),
      renews c.renew_keeps.ensures c.row_may_be_posted.ensures (g.C.Opens.opening c.args.board.now.shared.key) c.args.board.now.shared.table_id.slots c.join_seat.new.seat.id v c.join_seat.new.seat.me.1 (λ e. absurd (cc (role, e))),
    )

pub returns-clause-told : goal.returns-clause-told
returns-clause-told g c =
    let told = c.load.ensures.2 in
    subst IsToldBoth (ap (λ m. m.0) c.join_seat.ensures.2) (told.opening, told.renewal)

pub returns-clause-known : goal.returns-clause-known
returns-clause-known g c =
    let told = c.load.ensures.2 in
    let j = c.join_seat.ensures.2 in
    let role : c.join_seat.new.seat.me.0.role ≡ Master = ap (λ m. m.0.role) j ∙ c.requires.master in
    ap (λ v. v.known) told.view ∙ ((told.master role).known ∙ ap (λ m. m.0.known) j)
