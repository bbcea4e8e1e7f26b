use Rattle.std.proofs.lemmas.List.Elements.{filter_agree}
use Rattle.cv_isa.specs.Uses.{has, registers}
use Rattle.cv_blocks.specs.TextMap.{is_in_window}
use Rattle.cv_blocks.proofs.text_map.TextMap.window.Goals as goal

pub returns-clause-members : goal.returns-clause-members
returns-clause-members c =
    filter_agree (has c.set_of_window.result) (is_in_window c.args.self.now c.args.point) c.set_of_window.ensures registers
