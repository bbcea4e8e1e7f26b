use Rattle.std.proofs.Common.{bit_and, refl}
use Rattle.cv_observe.proofs.Narrowing.{common_members}
use Rattle.cv_observe.proofs.pairs.common.Goals as goal

pub returns : goal.returns
returns c =
    common_members c.args.set c.args.other (record { bits = bit_and c.args.set.bits c.args.other.bits }) refl
