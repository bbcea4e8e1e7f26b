use Rattle.std.proofs.Common.{◌≡◌, ◌∙◌, ap, sym, subst, arith}
use Rattle.std.specs.List.{AllByRecursion}
use Rattle.cv_office.proofs.Moves.{gives_back, renewed_pass, renews, takes_back}
use Rattle.cv_office.proofs.seats.give_back.Goals as goal
use Rattle.cv_office.specs.Told.{IsPass, IsRun}
use Rattle.cv_rule.specs.Steps.{renewed, worker_of}
use Rattle.cv_rule.specs.declared.view.Role.TheVariants.{Pass}

-- src/seats.rt
pub split_seat-note-requires : goal.split_seat-note-requires
split_seat-note-requires g c =
    let own = c.requires.own in (
      c.requires.board.2,
      (let two = c.requires.board.0 in omega arith),
      gives_back c.give_back_keeps.ensures (g.C.Opens.opening c.args.board.now.shared.key) c.args.master.now.id c.args.master.now.me.0 c.requires.master.role
          (subst (λ h. AllByRecursion (IsRun c.args.master.now.me.0) h) (sym own.1) (own.2, tt)),
    )

pub join_seat-requires : goal.join_seat-requires
join_seat-requires g c =
    let s = c.split_seat-note.ensures in
    let own = c.requires.own in (
      c.requires.board.1,
      s.3 ∙ c.requires.board.2,
      ap (λ m. m.1) s.4,
      (let two = c.requires.board.0 in omega arith),
      takes_back c.take_back_keeps.ensures (g.C.Opens.opening c.args.board.now.shared.key) c.args.pass.now.id c.split_seat-note.result.id c.args.pass.now.me.0 c.split_seat-note.result.me.0 own.0 own.3 (ap (λ m. m.0.role) s.4) (ap (λ m. m.0.hand) s.4 ∙ own.1),
    )

pub load-requires : goal.load-requires
load-requires g c =
    let j = c.join_seat.ensures in
    let v = c.join_seat.new.seat.me.0 in
    let role : v.role ≡ Pass (worker_of c.args.pass.now.me.0.role) = ap (λ m. m.0.role) j.2 ∙ c.requires.pass.role in (
      j.0 ∙ c.requires.board.1,
      (let two = c.requires.board.0 in omega arith),
      renews c.renew_keeps.ensures c.row_may_be_posted.ensures (g.C.Opens.opening c.args.board.now.shared.key) c.args.board.now.shared.table_id.slots c.join_seat.new.seat.id v c.join_seat.new.seat.me.1 (λ e. absurd (cc (role, e))),
    )

pub returns-clause-seated : goal.returns-clause-seated
returns-clause-seated g c =
    let told = c.load.ensures.2 in
    let e = ap (λ m. m.0) c.join_seat.ensures.2 in
    subst IsPass (sym (told.view ∙ ap (λ v. renewed v) e)) (renewed_pass c.renewed_stays.ensures c.within_grows.ensures c.args.pass.now.me.0 c.split_seat-note.result.me.0 c.requires.pass)
