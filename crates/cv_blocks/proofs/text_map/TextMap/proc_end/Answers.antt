use Rattle.std.proofs.Common.{rules}
use Rattle.cv_blocks.proofs.FromTables.{end_of_procedure}
use Rattle.cv_blocks.proofs.text_map.TextMap.proc_end.Goals as goal

pub returns : goal.returns
returns c =
    end_of_procedure c.args.self.now c.self.inside.listing c.self.view_is c.self.inside.starts.items _ c.args.point c.end.result _ c.as_slice.ensures.value c.self.invariant.1 (search rules) c.first_above.ensures
