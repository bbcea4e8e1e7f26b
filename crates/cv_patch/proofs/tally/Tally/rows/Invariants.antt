use Rattle.std.proofs.Common.{◌≡◌, not, eqb, take}
use Rattle.std.specs.List.{filter}
use Rattle.cv_base.specs.declared.entries.TallyRow.{TallyRow}
use Rattle.cv_patch.proofs.tally.Tally.rows.Given as goal

abbrev pub invariant-loop-row : goal.invariant-loop-row
invariant-loop-row l =
    l.rows.items ≡ filter (λ (r : TallyRow). not (eqb r.checks 0)) (take l.row-index l.row-items)
