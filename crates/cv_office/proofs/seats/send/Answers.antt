use Rattle.std.proofs.Common.{◌≡◌, ◌∙◌, ap, sym, subst, arith}
use Rattle.cv_office.proofs.Moves.{holding, postable, renews, sends, takes}
use Rattle.cv_office.proofs.seats.send.Goals as goal
use Rattle.cv_office.specs.Told.{IsHolding, IsToldBoth}
use Rattle.cv_rule.specs.Laws.{IsRenewal}
use Rattle.cv_rule.specs.Steps.{joined, renewed, worker_of}
use Rattle.cv_rule.specs.declared.view.Role.TheVariants.{Master}

-- src/seats.rt
pub split_seat-note-requires : goal.split_seat-note-requires
split_seat-note-requires g c =
    let row = c.requires.row in (
      c.requires.board.1,
      (let two = c.requires.board.0 in omega arith),
      sends c.send_keeps.ensures (g.C.Opens.opening c.args.board.now.shared.key) c.args.pass.now.id (worker_of c.args.pass.now.me.0.role) c.args.pass.now.me.0 row.0 c.requires.pass.role row.1 row.2,
    )

pub join_seat-requires : goal.join_seat-requires
join_seat-requires g c =
    let s = c.split_seat-note.ensures in (
      c.requires.board.2,
      s.3 ∙ c.requires.board.1,
      ap (λ m. m.1) s.4,
      (let two = c.requires.board.0 in omega arith),
      takes c.take_keeps.ensures (g.C.Opens.opening c.args.board.now.shared.key) c.args.master.now.id c.split_seat-note.result.id c.args.master.now.me.0 c.split_seat-note.result.me.0 c.requires.master.role (ap (λ m. m.0.role) s.4),
    )

pub load-requires : goal.load-requires
load-requires g c =
    let j = c.join_seat.ensures in
    let v = c.join_seat.new.seat.me.0 in
    let role : v.role ≡ Master = ap (λ m. m.0.role) j.2 ∙ c.requires.master.role in (
      j.0 ∙ c.requires.board.2,
      (let two = c.requires.board.0 in omega arith),
      renews c.renew_keeps.ensures c.row_may_be_posted.ensures (g.C.Opens.opening c.args.board.now.shared.key) c.args.board.now.shared.table_id.slots c.join_seat.new.seat.id v c.join_seat.new.seat.me.1 (λ e. absurd (cc (role, e))),
    )

pub returns-clause-told : goal.returns-clause-told
returns-clause-told g c =
    let told = c.load.ensures.2 in
    let e = ap (λ m. m.0) c.join_seat.ensures.2 ∙ ap (λ m. joined c.args.master.now.me.0 m.0) c.split_seat-note.ensures.4 in
    subst IsToldBoth e (told.opening, told.renewal)

pub returns-clause-holding : goal.returns-clause-holding
returns-clause-holding g c =
    let told = c.load.ensures.2 in
    let e = ap (λ m. m.0) c.join_seat.ensures.2 ∙ ap (λ m. joined c.args.master.now.me.0 m.0) c.split_seat-note.ensures.4 in
    subst (λ v. IsHolding c.args.pass.now.me.0.hand v) (sym (told.view ∙ ap (λ v. renewed v) e))
    (holding c.renewed_stays.ensures c.args.master.now.me.0 c.args.pass.now.me.0 told.opening c.requires.master c.requires.row (subst (λ v. IsRenewal told.opening v (renewed v)) e told.renewal))

pub returns-clause-may : goal.returns-clause-may
returns-clause-may g c =
    let told = c.load.ensures.2 in
    let e = ap (λ m. m.0) c.join_seat.ensures.2 ∙ ap (λ m. joined c.args.master.now.me.0 m.0) c.split_seat-note.ensures.4 in
    postable c.args.master.now.me.0 c.args.pass.now.me.0 c.join_seat.new.seat.me.0 c.load.result told.opening c.requires.master c.requires.row e told.renewal told.row

pub returns-clause-known : goal.returns-clause-known
returns-clause-known g c =
    let told = c.load.ensures.2 in
    let j = c.join_seat.ensures.2 in
    let role : c.join_seat.new.seat.me.0.role ≡ Master = ap (λ m. m.0.role) j ∙ c.requires.master.role in
    ap (λ v. v.known) told.view ∙ ((told.master role).known ∙ ap (λ m. m.0.known) j)
