use Rattle.cv_office_examples.proofs.offices.take_round.Given as goal

abbrev pub ghosts-in_office : goal.ghosts-in_office
ghosts-in_office g a = record { table = a.draft.table }
