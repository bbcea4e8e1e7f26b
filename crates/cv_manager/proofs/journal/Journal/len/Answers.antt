use Rattle.std.proofs.Common.{◌∙◌, sym, ap, length, arith}
use Rattle.cv_manager.proofs.Pairing.{length_seen}
use Rattle.cv_manager.proofs.journal.Journal.len.Goals as goal

pub returns : goal.returns
returns c =
    let same = ap length (sym c.self.view_is) ∙ length_seen _ _ c.self.invariant.each in
    omega (arith, c.self.inside.entries.ok)
