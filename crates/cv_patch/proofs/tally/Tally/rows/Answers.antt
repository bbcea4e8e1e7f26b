use Rattle.std.proofs.Common.{◌≡◌, ◌∙◌, ap, sym, subst, not, eqb, take, arith}
use Rattle.std.proofs.lemmas.List.{take_all}
use Rattle.std.specs.List.{filter}
use Rattle.cv_base.specs.declared.entries.TallyRow.{TallyRow}
use Rattle.cv_patch.specs.Counts.{CountsChecks}
use Rattle.cv_patch.proofs.CountedRows.{tally_rows_are}
use Rattle.cv_patch.proofs.tally.Tally.rows.Goals as goal

pub returns : goal.returns
returns c checks counts =
    let all : take c.loop-row.row-index c.as_slice-row-items.result.now ≡ c.as_slice-row-items.result.now = take_all _ _ (omega arith) in
    let law = tally_rows_are c.self.inside.rows.items checks c.self.invariant.0 (subst (λ l. CountsChecks l checks) (sym c.self.view_is) counts) in
    c.from_vec.ensures ∙ c.loop-row.invariant ∙ ap (filter (λ (r : TallyRow). not (eqb r.checks 0))) (all ∙ c.as_slice-row-items.ensures.value) ∙ law
