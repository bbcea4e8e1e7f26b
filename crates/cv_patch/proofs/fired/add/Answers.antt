use Rattle.std.proofs.Common.{◌≡◌, ◌∙◌, rules}
use Rattle.std.specs.List.{insert}
use Rattle.cv_patch.specs.Prepared.{unfired}
use Rattle.cv_patch.proofs.Firings.{case_of, index_of}
use Rattle.cv_patch.proofs.Ordered.{added_new, added_there}
use Rattle.cv_patch.proofs.fired.add.Goals as goal

pub returns-in-Err-clause-items : goal.returns-in-Err-clause-items
returns-in-Err-clause-items c =
    let row = unfired c.args.case c.args.index in
    let inserted : c.insert.new.self.items ≡ insert c.args.rows.now.items c.in-Err.at row = search rules in
    inserted ∙ added_new case_of index_of row _ _ (rw c.as_slice.ensures.value at c.in-Err.ensures)

pub returns-in_default-clause-items : goal.returns-in_default-clause-items
returns-in_default-clause-items c =
    added_there case_of index_of (unfired c.args.case c.args.index) _ c.in_default.field-0 (rw c.as_slice.ensures.value at c.in_default.ensures)
