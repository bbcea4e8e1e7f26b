use Rattle.cv_mem.proofs.Within.{load_within}
use Rattle.cv_mem.proofs.space.Space.load.Goals as goal

pub number_at-requires-clause-within : goal.number_at-requires-clause-within
number_at-requires-clause-within c =
    load_within _ c.args.self.now c.args.addr c.args.size c.as_slice.result.now c.self.view_is c.self.invariant.0 c.requires c.in-None.ensures c.as_slice.ensures.value
