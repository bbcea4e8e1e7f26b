use Rattle.std.proofs.Common.{sym}
use Rattle.cv_heap.proofs.Places.{covers_last, covers_none}
use Rattle.cv_heap.proofs.blocks.Blocks.covers.Goals as goal

pub returns-in-Some : goal.returns-in-Some
returns-in-Some c =
    rw (c.holds.ensures, ← c.self.view_is)
    (covers_last _ _ _ _ _ c.self.invariant.0.apart (rw c.as_slice.ensures.value at c.in-Some.ensures) c.index.ensures)

pub returns-in-None : goal.returns-in-None
returns-in-None c = rw (← c.self.view_is) (sym (covers_none _ _ _ (rw c.as_slice.ensures.value at c.in-None.ensures)))
