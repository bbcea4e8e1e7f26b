use Rattle.std.proofs.Common.{◌≡◌, ◌∙◌, ap, sym, subst, not, eqb, take, arith}
use Rattle.std.proofs.lemmas.List.{take_all}
use Rattle.std.specs.List.{filter}
use Rattle.cv_base.specs.declared.entries.FiredRow.{FiredRow}
use Rattle.cv_patch.specs.Counts.{CountsFirings}
use Rattle.cv_patch.proofs.CountedRows.{fired_rows_are}
use Rattle.cv_patch.proofs.fired.Fired.rows.Goals as goal

pub returns : goal.returns
returns c firings counts =
    let all : take c.loop-row.row-index c.as_slice-row-items.result.now ≡ c.as_slice-row-items.result.now = take_all _ _ (omega arith) in
    let law = fired_rows_are c.self.inside.rows.items firings c.self.invariant (subst (λ l. CountsFirings l firings) (sym c.self.view_is) counts) in
    c.from_vec.ensures ∙ c.loop-row.invariant ∙ ap (filter (λ (r : FiredRow). not (eqb r.count 0))) (all ∙ c.as_slice-row-items.ensures.value) ∙ law
