use Rattle.std.proofs.Common.{◌≡◌, Some, refl}
use Rattle.cv_isa.specs.declared.operation.Op.{Op}
use Rattle.cv_isa.specs.declared.operation.Op.TheVariants as op
use Rattle.cv_isa.specs.Names.{name_of, op_named}
use Rattle.cv_isa.proofs.names.names_are_read_back.Goals as goal

read_back : (o : Op) → op_named (name_of o) ≡ Some o
unfolding op_named
read_back op.Lui = refl
read_back _ = refl

pub returns : goal.returns
returns c = read_back
