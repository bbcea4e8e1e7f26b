use Rattle.cv_blocks.proofs.FromTables.{set_of_window}
use Rattle.cv_blocks.proofs.text_map.TextMap.set_of_window.Goals as goal

pub returns : goal.returns
returns c =
    set_of_window c.args.self.now c.self.inside.listing c.self.view_is c.self.inside.windows.items c.place.result c.args.point c.index.result.now c.self.invariant.0 c.place.ensures.within c.place.ensures.address c.index.ensures
