use Rattle.cv_isa.proofs.Inverse.{meaning_of-placed, placed_from_meaning}
use Rattle.cv_isa.proofs.Meanings.{meaning_known}
use Rattle.cv_isa.proofs.names.words_of_instructions.Goals as goal

pub returns-clause-means : goal.returns-clause-means
returns-clause-means c = meaning_of-placed

pub returns-clause-only : goal.returns-clause-only
returns-clause-only c = placed_from_meaning

pub returns-clause-known : goal.returns-clause-known
returns-clause-known c = meaning_known
