-- What a machine holds once its core, lent to a caller, is given back.
use Rattle.std.specs.Borrow.{Lends, MutBor, Fml}
use Rattle.cv_machine.specs.contracts.machine.Machine as machine
use Rattle.cv_machine.specs.Held.{Held}
use Rattle.cv_shadow.specs.contracts.frames.Core as core
use Rattle.cv_shadow.specs.declared.frames.Core.{Core}

-- the same with the core that the caller left
abbrev pub LendsCore : MutBor Held → MutBor Core → Fml
LendsCore m r = Lends machine.the_row core.the_row m r (λ (c : Core). record m.now { core = c })
