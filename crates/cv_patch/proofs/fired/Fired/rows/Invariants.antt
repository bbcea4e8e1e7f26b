use Rattle.std.proofs.Common.{◌≡◌, not, eqb, take}
use Rattle.std.specs.List.{filter}
use Rattle.cv_base.specs.declared.entries.FiredRow.{FiredRow}
use Rattle.cv_patch.proofs.fired.Fired.rows.Given as goal

abbrev pub invariant-loop-row : goal.invariant-loop-row
invariant-loop-row l =
    l.rows.items ≡ filter (λ (r : FiredRow). not (eqb r.count 0)) (take l.row-index l.row-items)
