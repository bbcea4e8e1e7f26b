use Rattle.cv_exec.proofs.ending.told.Goals as goal

pub returns-in-Living : goal.returns-in-Living
returns-in-Living c = rw c.in-Living.is c.tell.ensures
