use Rattle.std.proofs.Common.{sym, arith}
use Rattle.cv_mem.specs.Access.{is_open}
use Rattle.cv_mem.proofs.Addresses.{each_from, each_not}
use Rattle.cv_mem.proofs.regions.parts_are_open.Goals as goal

pub returns-in-None : goal.returns-in-None
returns-in-None c =
    sym (each_not (is_open c.args.access c.args.regions.now) c.args.addr c.args.len c.parts.at c.parts.invariant.from (omega arith) c.in-None.ensures.none)

pub returns : goal.returns
returns c =
    sym (each_from (is_open c.args.access c.args.regions.now) c.args.addr c.args.len (λ k l u. c.parts.invariant.each k l (omega arith)))
