use Rattle.std.proofs.Common.{◌≡◌, ◌∙◌, [], ap, sym, subst}
use Rattle.cv_desk.proofs.Noting.{after_at}
use Rattle.cv_desk.proofs.Sending.{floor_is, follows, has_back, sent_is, settles}
use Rattle.cv_desk.proofs.Telling.{renewed_absent}
use Rattle.cv_desk.proofs.desk.Desk.post.Goals as goal
use Rattle.cv_desk.specs.Standing.{IsNoted}
use Rattle.cv_exec.specs.RecordOf.{IsHonestUnder}
use Rattle.cv_histories.specs.Legal.{NeverFalls}
use Rattle.cv_histories.specs.Versions.{newest}
use Rattle.cv_manager.specs.ManagerOf.{ledger_in}
use Rattle.cv_office.specs.Told.{IsToldBoth}
use Rattle.cv_rule.specs.Steps.{joined, note_of, renewed, sending}

-- src/desk.rt
pub post-requires-clause-follows : goal.post-requires-clause-follows
post-requires-clause-follows g c =
    let s = c.send.ensures in
    let r = c.args.outcome in
    let e = c.entry-honest.ensures in
    let is = sent_is c.self.inside.book c.self.inside.seat.me.0 c.args.pass.now.me.0 c.send.new.master.me.0 c.args.ticket r c.send.result c.self.invariant.2 c.requires.pass.0 c.requires.ticket c.requires.outcome s.may s.told s.heard s.known in
    follows c.self.inside.book c.self.inside.seat.me.0 c.args.pass.now.me.0 c.args.ticket r c.send.result is
    (record { numbers_are = c.numbers_are_of_round.ensures; numbers_rise = c.numbers_rise.ensures; floor_below = c.floor_is_below.ensures; floor_stays = c.floor_stays.ensures })
    c.loaded_may_be_posted.ensures
    (subst (λ x. IsHonestUnder r.plan r.adopted x) e.value e.honest) (subst (λ x. NeverFalls x.adopted) e.value e.rises)

pub note-requires-clause-versions : goal.note-requires-clause-versions
note-requires-clause-versions g c =
    let s = c.send.ensures in
    let r = c.args.outcome in
    let e = c.entry-honest.ensures in
    let is = sent_is c.self.inside.book c.self.inside.seat.me.0 c.args.pass.now.me.0 c.send.new.master.me.0 c.args.ticket r c.send.result c.self.invariant.2 c.requires.pass.0 c.requires.ticket c.requires.outcome s.may s.told s.heard s.known in
    let may = follows c.self.inside.book c.self.inside.seat.me.0 c.args.pass.now.me.0 c.args.ticket r c.send.result is
    (record { numbers_are = c.numbers_are_of_round.ensures; numbers_rise = c.numbers_rise.ensures; floor_below = c.floor_is_below.ensures; floor_stays = c.floor_stays.ensures })
    c.loaded_may_be_posted.ensures
    (subst (λ x. IsHonestUnder r.plan r.adopted x) e.value e.honest) (subst (λ x. NeverFalls x.adopted) e.value e.rises) in
    after_at c.followed_has_room.ensures c.runs_are_counted.ensures c.self.inside.book c.post.new.self r.entry c.in-Ok.added c.send.new.master.me.0.known.versions c.limits.ensures.plan c.limits.ensures.legal may
    c.in-Ok.ensures.version c.in-Ok.ensures.posted (ap (λ k. k.versions) s.known ∙ c.self.invariant.2.versions)

pub returns-in-Ok-clause-done : goal.returns-in-Ok-clause-done
returns-in-Ok-clause-done g c =
    let s = c.send.ensures in
    let r = c.args.outcome in
    let m = c.self.inside.seat.me.0 in
    let p = c.args.pass.now.me.0 in
    let v = c.send.new.master.me.0 in
    let w = c.note.new.master.me.0 in
    let is = sent_is c.self.inside.book m p v c.args.ticket r c.send.result c.self.invariant.2 c.requires.pass.0 c.requires.ticket c.requires.outcome s.may s.told s.heard s.known in
    let q : c.send.new.pass.me.0 ≡ sending p = ap (λ x. x.0) s.pass.2 in
    settles c.self.inside.book m p c.args.ticket r c.send.result is v w s.known s.holding.hand_is (ap (λ x. x.absent) s.heard ∙ renewed_absent (joined m (note_of p p.hand)))
    (subst (λ n. IsNoted (ledger_in n).versions v w) c.in-Ok.ensures.posted c.note.ensures.noted)
    c.post_settles.ensures c.booked_is_found.ensures c.tell.new.pass.me.0
    (c.tell.ensures.told ∙ ap (λ x. renewed (joined x (note_of w []))) q) (subst (λ x. IsToldBoth (joined x (note_of w []))) q c.tell.ensures.both)

pub returns-in-Ok-clause-newest : goal.returns-in-Ok-clause-newest
returns-in-Ok-clause-newest g c =
    let s = c.send.ensures in
    let r = c.args.outcome in
    let m = c.self.inside.seat.me.0 in
    let p = c.args.pass.now.me.0 in
    let v = c.send.new.master.me.0 in
    let w = c.note.new.master.me.0 in
    let is = sent_is c.self.inside.book m p v c.args.ticket r c.send.result c.self.invariant.2 c.requires.pass.0 c.requires.ticket c.requires.outcome s.may s.told s.heard s.known in
    let q : c.send.new.pass.me.0 ≡ sending p = ap (λ x. x.0) s.pass.2 in
    floor_is c.self.inside.book m p c.args.ticket r c.send.result is v w s.known s.holding.hand_is (ap (λ x. x.absent) s.heard ∙ renewed_absent (joined m (note_of p p.hand)))
    (subst (λ n. IsNoted (ledger_in n).versions v w) c.in-Ok.ensures.posted c.note.ensures.noted)
    c.post_settles.ensures c.booked_is_found.ensures c.tell.new.pass.me.0
    (c.tell.ensures.told ∙ ap (λ x. renewed (joined x (note_of w []))) q)
    ∙ ap (λ n. newest n.plan n.past) (sym c.in-Ok.ensures.posted)

pub returns-in-Err-clause-as_before : goal.returns-in-Err-clause-as_before
returns-in-Err-clause-as_before g c =
    let s = c.send.ensures in
    let m = c.self.inside.seat.me.0 in
    let p = c.args.pass.now.me.0 in
    let v = c.send.new.master.me.0 in
    let is = sent_is c.self.inside.book m p v c.args.ticket c.args.outcome c.send.result c.self.invariant.2 c.requires.pass.0 c.requires.ticket c.requires.outcome s.may s.told s.heard s.known in
    let q : c.send.new.pass.me.0 ≡ sending p = ap (λ x. x.0) s.pass.2 in
    has_back c.self.inside.book m p c.args.ticket c.args.outcome c.send.result is c.longer_begins.ensures c.longer_begins-2.ensures v c.give_back.new.pass.me.0 s.holding.hand_is c.requires.pass.1
    (c.give_back.ensures.back ∙ ap (λ x. renewed (joined x (note_of v v.hand))) q)
