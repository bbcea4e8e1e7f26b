use Rattle.std.proofs.Common.{◌∙◌, ap}
use Rattle.std.specs.Prelude.{map}
use Rattle.cv_manager.proofs.LastTable.{found, not_found}
use Rattle.cv_manager.proofs.kept.Kept.last_of.Goals as goal

pub returns-in_ok-try_clone-in-Some-get : goal.returns-in_ok-try_clone-in-Some-get
returns-in_ok-try_clone-in-Some-get c =
    c.in_ok-try_clone-in-Some-get.ensures
    ∙ found _ c.deref.result.now _ (ap (map (λ t. t.value)) c.deref.ensures.value ∙ c.requires.versions) c.args.entry.now.adopted c.in-Some.adopted.now
    (rw c.as_slice.ensures at c.in-Some.ensures.value)
    c.in-Some-get.table.now
    c.in-Some-get.ensures.lookup.3.0
    c.in-Some-get.ensures.lookup.1

pub returns-in_ok-new-in-None : goal.returns-in_ok-new-in-None
returns-in_ok-new-in-None c =
    c.in_ok-new-in-None.ensures.ok
    ∙ c.make-in-None.ensures
    ∙ not_found _ c.deref.result.now _ (ap (map (λ t. t.value)) c.deref.ensures.value ∙ c.requires.versions) c.args.entry.now.adopted c.in-Some.adopted.now
    (rw c.as_slice.ensures at c.in-Some.ensures.value)
    c.in-None.ensures.lookup.3
