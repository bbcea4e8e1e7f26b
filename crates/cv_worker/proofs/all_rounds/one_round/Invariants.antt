use Rattle.cv_worker.proofs.all_rounds.one_round.Given as goal

abbrev pub ghosts-in_office : goal.ghosts-in_office
ghosts-in_office g a = record { table = a.draft.table }
