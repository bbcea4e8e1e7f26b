use Rattle.std.proofs.Common.{◌≡◌, ◌∙◌, ap, sym, subst, arith}
use Rattle.cv_office.proofs.Moves.{news, notes, renewed_pass, renews}
use Rattle.cv_office.proofs.seats.tell.Goals as goal
use Rattle.cv_office.specs.Told.{IsPass, IsToldBoth}
use Rattle.cv_rule.specs.Steps.{joined, renewed, worker_of}
use Rattle.cv_rule.specs.declared.view.Role.TheVariants.{Pass}

-- src/seats.rt
pub split_seat-note-requires : goal.split_seat-note-requires
split_seat-note-requires g c = (
  c.requires.board.2,
  (let two = c.requires.board.0 in omega arith),
  notes c.note_keeps.ensures (g.C.Opens.opening c.args.board.now.shared.key) c.args.master.now.id c.args.master.now.me.0 (λ e. let role = c.requires.master.role in absurd (cc (role, e))),
)

pub join_seat-requires : goal.join_seat-requires
join_seat-requires g c =
    let s = c.split_seat-note.ensures in (
      c.requires.board.1,
      s.3 ∙ c.requires.board.2,
      ap (λ m. m.1) s.4,
      (let two = c.requires.board.0 in omega arith),
      news c.news_keeps.ensures (g.C.Opens.opening c.args.board.now.shared.key) c.args.pass.now.id c.split_seat-note.result.id (worker_of c.args.pass.now.me.0.role) c.args.pass.now.me.0 c.split_seat-note.result.me.0 c.requires.pass.role (ap (λ m. m.0.role) s.4) (ap (λ m. m.0.hand) s.4),
    )

pub load-requires : goal.load-requires
load-requires g c =
    let j = c.join_seat.ensures in
    let v = c.join_seat.new.seat.me.0 in
    let role : v.role ≡ Pass (worker_of c.args.pass.now.me.0.role) = ap (λ m. m.0.role) j.2 ∙ c.requires.pass.role in (
      j.0 ∙ c.requires.board.1,
      (let two = c.requires.board.0 in omega arith),
      renews c.renew_keeps.ensures c.row_may_be_posted.ensures (g.C.Opens.opening c.args.board.now.shared.key) c.args.board.now.shared.table_id.slots c.join_seat.new.seat.id v c.join_seat.new.seat.me.1 (λ e. absurd (cc (role, e))),
    )

pub returns-clause-both : goal.returns-clause-both
returns-clause-both g c =
    let told = c.load.ensures.2 in
    let e = ap (λ m. m.0) c.join_seat.ensures.2 ∙ ap (λ m. joined c.args.pass.now.me.0 m.0) c.split_seat-note.ensures.4 in
    subst IsToldBoth e (told.opening, told.renewal)

pub returns-clause-seated : goal.returns-clause-seated
returns-clause-seated g c =
    let told = c.load.ensures.2 in
    let e = ap (λ m. m.0) c.join_seat.ensures.2 in
    subst IsPass (sym (told.view ∙ ap (λ v. renewed v) e)) (renewed_pass c.renewed_stays.ensures c.within_grows.ensures c.args.pass.now.me.0 c.split_seat-note.result.me.0 c.requires.pass)
