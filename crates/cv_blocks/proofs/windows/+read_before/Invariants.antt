use Rattle.cv_blocks.proofs.windows.+read_before.Given as goal

abbrev pub decreases-read_before : goal.decreases-read_before
decreases-read_before l = l.count
