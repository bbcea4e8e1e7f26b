use Rattle.clearview.proofs.replay.entry_text.Goals as goal

pub returns : goal.returns
returns c = rw c.in_ok-replay.ensures at c.lines_before.ensures
