use Rattle.cv_isa.proofs.Sets.{set_bit}
use Rattle.cv_isa.proofs.registers.RegSet.with.Goals as goal

pub returns : goal.returns
returns c r = set_bit c.args.self.bits c.args.reg c.requires r
