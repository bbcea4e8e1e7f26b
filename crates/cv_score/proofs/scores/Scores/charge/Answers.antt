use Rattle.std.proofs.Common.{◌≡◌, ap, length, arith}
use Rattle.std.proofs.lemmas.List.{take_at}
use Rattle.cv_score.proofs.OneMore.{stands_for_one_more}
use Rattle.cv_score.proofs.scores.Scores.charge.Goals as goal

pub returns-clause-counted : goal.returns-clause-counted
returns-clause-counted c = λ case past s same has stands.
    let long : length c.charge_each.new.list ≡ c.self.inside.counts.len = omega (arith, c.deref_mut.ensures.len) in
    rw (take_at c.charge_each.new.list _ _ long)
    (stands_for_one_more c.self.inside.case c.self.inside.id c.self.inside.charged c.self.inside.counts.items c.charge_each.new.list c.args.last_has c.args.entry.now
    (omega (arith, ap length c.deref_mut.ensures.value))
    (rw c.deref_mut.ensures.value at c.charge_each.ensures)
    case past s same
    (rw (← c.self.view_is) at has)
    (rw (← c.self.view_is) at stands))
