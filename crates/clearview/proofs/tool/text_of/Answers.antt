use Rattle.clearview.proofs.Commands.{read_gives}
use Rattle.clearview.proofs.tool.text_of.Goals as goal
use Rattle.clearview.proofs.tool.text_of.Goals.{in-Plain-1, in-Check-1}

-- src/tool.rt
pub returns-in-Ok-Some-clause-gives : goal.returns-in-Ok-Some-clause-gives
returns-in-Ok-Some-clause-gives g c =
    elim c.match-command.branch [
      | in-Plain-1 w ↦ read_gives _ c.in-Ok-Some.field-0 c.in-Ok-Some.command _ c.command_text.result c.in-Ok-Some.ensures.value c.in-Ok-Some.field-0-is c.command_text.ensures.gives
      | in-Check-1 w ↦ read_gives _ c.in-Ok-Some.field-0 c.in-Ok-Some.command _ c.command_text.result c.in-Ok-Some.ensures.value c.in-Ok-Some.field-0-is c.command_text.ensures.gives
    ]
