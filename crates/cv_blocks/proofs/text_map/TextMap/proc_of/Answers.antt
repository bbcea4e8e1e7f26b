use Rattle.cv_blocks.proofs.FromTables.{name_of_procedure}
use Rattle.cv_blocks.proofs.text_map.TextMap.proc_of.Goals as goal

pub returns : goal.returns
returns c =
    name_of_procedure c.args.self.now c.self.inside.listing c.self.view_is c.self.inside.starts.items _ c.args.point _ c.as_slice.ensures.value c.self.invariant.1 c.last_up_to.ensures
