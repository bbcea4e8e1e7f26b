use Rattle.std.proofs.Common.{◌≡◌, ◌∙◌, sym, ap, length, arith}
use Rattle.std.proofs.lemmas.List.{take_at}
use Rattle.cv_class.proofs.OneMore.{stands_for_one_more}
use Rattle.cv_class.proofs.classes.Classes.count.Goals as goal

pub returns-clause-counted : goal.returns-clause-counted
returns-clause-counted c = λ before s same stands.
    let long : length c.count_each.new.list ≡ c.self.inside.marks.len = omega (arith, c.deref_mut.ensures.len) in
    rw (take_at c.count_each.new.list _ _ long)
    (stands_for_one_more c.self.inside.case c.as_slice.result.now c.self.inside.marks.items c.count_each.new.list
    (omega (arith, ap length c.deref_mut.ensures.value))
    (rw c.deref_mut.ensures.value at c.count_each.ensures)
    before s
    (ap (λ e. e.tally) same ∙ sym c.as_slice.ensures)
    (rw (← c.self.view_is) at stands))
