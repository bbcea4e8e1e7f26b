use Rattle.cv_patch.proofs.Firings.{case_of, index_of}
use Rattle.cv_patch.proofs.Ordered.{found_there}
use Rattle.cv_patch.proofs.fired.Fired.row_of.Goals as goal

pub unwrap-requires : goal.unwrap-requires
unwrap-requires c =
    found_there case_of index_of c.args.case c.args.index c.self.inside.rows.items _ (rw c.self.view_is c.requires)
    (rw c.as_slice.ensures.value at c.place.ensures)
