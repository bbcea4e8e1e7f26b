-- The command that a reading of words answers.
use Rattle.clearview.specs.declared.words.Charge.{Charge}
use Rattle.clearview.specs.declared.words.Command.{Command as Reading}
use Rattle.clearview.specs.declared.words.Command.TheVariants as reading
use Rattle.clearview.specs.declared.words.Order.{Order}
use Rattle.clearview.specs.declared.words.Order.TheVariants as order
use Rattle.clearview.specs.declared.words.Visit.{Visit}
use Rattle.clearview.specs.Words.{Command, Plain, Check, Infer, Run, Drill, Asm, Listing, Audit, Replay}

abbrev pub command_view : Reading → Command
command_view (reading.Plain image budget input) = Plain image.now budget input
command_view (reading.Check job) = Check job.now
command_view (reading.Infer job) = Infer job.now
command_view (reading.Asm source) = Asm source.now
command_view (reading.Listing image) = Listing image.now

abbrev pub order_view : Order → Command
order_view (order.Run job) = Run job.now
order_view (order.Drill number runs) = Drill number runs

abbrev pub charge_view : Charge → Command
charge_view charge = Audit charge.job.now charge.report.now

abbrev pub visit_view : Visit → Command
visit_view visit = Replay visit.job.now visit.report.now visit.run visit.turn
