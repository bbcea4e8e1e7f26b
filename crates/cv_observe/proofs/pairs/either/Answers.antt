use Rattle.std.proofs.Common.{bit_or, refl}
use Rattle.cv_observe.proofs.OneOut.{either_members}
use Rattle.cv_observe.proofs.pairs.either.Goals as goal

pub returns : goal.returns
returns c =
    either_members c.args.set c.args.other (record { bits = bit_or c.args.set.bits c.args.other.bits }) refl
