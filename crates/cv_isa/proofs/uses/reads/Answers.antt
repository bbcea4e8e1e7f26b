use Rattle.std.proofs.lemmas.List.Elements.{filter_agree}
use Rattle.cv_isa.specs.Uses.{has, is_read, registers}
use Rattle.cv_isa.proofs.uses.reads.Goals as goal

pub returns-clause-members : goal.returns-clause-members
returns-clause-members c = filter_agree (has c.operands.result) (is_read c.args.inst.now) c.operands.ensures registers
