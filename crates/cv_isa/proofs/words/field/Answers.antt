use Rattle.std.proofs.lemmas.Nat.{one_shl, and_mask}
use Rattle.cv_isa.proofs.words.field.Goals as goal

pub returns-clause-value : goal.returns-clause-value
returns-clause-value c = rw (one_shl c.args.count 32 c.requires.count) (and_mask _ c.args.count)
