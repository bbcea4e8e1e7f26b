use Rattle.std.proofs.Common.{◌≡◌, ◌∙◌, refl, sym, ap, subst, get_or, arith}
use Rattle.cv_base.specs.declared.entries.Observation.{Observation}
use Rattle.cv_base.specs.Picture.{is_point}
use Rattle.cv_observe.proofs.OneTable.{numbers_below, table_set, stands_set}
use Rattle.cv_observe.specs.AtPoint.{IsPoint, numbers_of}
use Rattle.cv_observe.specs.StandsFor.{SummaryOf, StandsFor, point_at}
use Rattle.cv_observe.specs.declared.point.Point.{Point}
use Rattle.cv_observe.proofs.summary.Summary.see.Goals as goal

pub see-requires : goal.see-requires
see-requires c =
    let table = c.self.invariant in
    let items = c.self.inside.points.items in
    let at = c.place-at.result in
    let text = c.self.inside.map in
    let was : Point = c.index_mut.result.now in
    let words = table.words in
    let within = c.place-at.ensures.within in
    let old : was ≡ get_or items at was = c.index_mut.ensures.value in
    numbers_below text (point_at text at) was (ap (λ (k : Point). numbers_of k.registers.items) old ∙ table.reads at was (omega arith))

pub invariant_of-self : goal.invariant_of-self
invariant_of-self c =
    let table = c.self.invariant in
    let items = c.self.inside.points.items in
    let at = c.place-at.result in
    let was : Point = c.index_mut.result.now in
    let words = table.words in
    let within = c.place-at.ensures.within in
    let old : was ≡ get_or items at was = c.index_mut.ensures.value in
    table_set c.self.inside.map items table at was c.see.new.self (omega arith) (c.see.ensures.numbers ∙ ap (λ (k : Point). numbers_of k.registers.items) old) c.see.ensures.seen

pub returns-clause-seen : goal.returns-clause-seen
returns-clause-seen c seen stands =
    let table = c.self.invariant in
    let text = c.self.inside.map in
    let items = c.self.inside.points.items in
    let at = c.place-at.result in
    let was : Point = c.index_mut.result.now in
    let y : Point = c.see.new.self in
    let words = table.words in
    let within = c.place-at.ensures.within in
    let old : was ≡ get_or items at was = c.index_mut.ensures.value in
    let o : Observation = record { point = c.args.point; regs = c.args.regs.now; frame_sp = c.args.frame_sp } in
    stands_set text items table at was y (omega arith) (c.see.ensures.numbers ∙ ap (λ (k : Point). numbers_of k.registers.items) old) o c.place-at.ensures.address (ap (λ (s : SummaryOf). is_point s.text c.args.point) c.self.view_is ∙ c.requires)
    (λ window here is. c.see.ensures.kept window here o refl refl (subst (λ k. IsPoint window k here) (sym old) is))
    seen (subst (λ (s : SummaryOf). StandsFor s seen) (sym c.self.view_is) stands)
