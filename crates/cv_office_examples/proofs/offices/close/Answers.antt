use Rattle.cv_office_examples.proofs.Ends.{all_done}
use Rattle.cv_office_examples.proofs.offices.close.Goals as goal

-- src/offices.rt
pub close-requires : goal.close-requires
close-requires g c = record {
  done = (c.requires.ended.0, all_done c.requires.ended.0 c.args.first c.args.second c.in-Ok.passes.items c.requires.ended.1 c.in-Ok.ensures.items);
}

pub returns : goal.returns
returns g c = λ s ended. c.close.ensures s (all_done s c.args.first c.args.second c.in-Ok.passes.items ended c.in-Ok.ensures.items)
