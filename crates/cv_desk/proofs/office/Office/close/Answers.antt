use Rattle.std.proofs.Common.{◌≡◌, ◌∙◌, ap, sym, subst}
use Rattle.std.proofs.lemmas.Option.{same_Some}
use Rattle.cv_desk.proofs.Closing.{closed}
use Rattle.cv_desk.proofs.Sending.{one_setting}
use Rattle.cv_desk.proofs.office.Office.close.Goals as goal
use Rattle.cv_desk.specs.Openings.{opening_of}
use Rattle.cv_desk.specs.Standing.{IsClosed}
use Rattle.cv_office.specs.Told.{HasRunsOnce}

-- src/office.rt
pub returns : goal.returns
returns g c = λ s done.
    let d = c.book.invariant.2 in
    let w = c.end_all.new.master.me.0 in
    let known = c.end_all.ensures.known in
    let alone = c.end_all.ensures.alone s done in
    let same : s ≡ d.setting = one_setting s d.setting (same_Some (opening_of s) (opening_of d.setting) (sym alone.opening ∙ (ap (λ k. k.opening) known ∙ d.opening))) in
    subst (λ x. IsClosed x c.book.inside.book) (sym same)
    (closed c.numbers_are_of_round.ensures c.book.inside.book c.book.inside.seat.me.0 w d known (subst (λ x. HasRunsOnce (opening_of x) w) same (c.close.ensures (opening_of s) alone)))
