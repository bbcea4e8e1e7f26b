use Rattle.std.proofs.Common.{◌∙◌, ap}
use Rattle.std.specs.Prelude.{reverse}
use Rattle.cv_manager.specs.Journal.{entries_of}
use Rattle.cv_manager.proofs.Pairing.{entries_seen}
use Rattle.cv_manager.proofs.journal.Journal.entries.Goals as goal

pub returns : goal.returns
returns c =
    c.as_slice.ensures.value
    ∙ entries_seen _ _ c.self.invariant.each
    ∙ ap (λ past. reverse (entries_of past)) c.self.view_is
