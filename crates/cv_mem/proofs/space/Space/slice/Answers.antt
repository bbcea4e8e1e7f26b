use Rattle.std.proofs.Common.{arith}
use Rattle.cv_mem.specs.declared.regions.Access.TheVariants.{Read}
use Rattle.cv_mem.proofs.Within.{open_within}
use Rattle.cv_mem.proofs.space.Space.slice.Goals as goal

pub part-requires : goal.part-requires
part-requires c =
    open_within Read _ c.args.self.now c.args.addr c.args.len c.as_slice-bytes.result.now c.self.view_is c.self.invariant.0 (omega arith) c.requires c.as_slice-bytes.ensures.value
