use Rattle.std.proofs.Common.{sym}
use Rattle.std.proofs.lemmas.List.Folds.{list_any_none}
use Rattle.cv_heap.proofs.Places.{free_at, free_none}
use Rattle.cv_heap.proofs.blocks.Blocks.free.Goals as goal

pub returns-in-Some-clause-left : goal.returns-in-Some-clause-left
returns-in-Some-clause-left c =
    rw (c.remove-block.ensures.items, ← c.self.view_is)
    (free_at _ _ _ _ c.self.invariant.0.apart (rw c.as_slice.ensures.value at c.in-Some.ensures))

pub returns-in-None-clause-found : goal.returns-in-None-clause-found
returns-in-None-clause-found c =
    rw (← c.self.view_is) (sym (list_any_none _ _ (rw c.as_slice.ensures.value at c.in-None.ensures)))

pub returns-in-None-clause-left : goal.returns-in-None-clause-left
returns-in-None-clause-left c = rw (← c.self.view_is) (free_none _ _ (rw c.as_slice.ensures.value at c.in-None.ensures))
