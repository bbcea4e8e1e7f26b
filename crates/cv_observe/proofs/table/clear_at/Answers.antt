use Rattle.std.proofs.Common.{[]}
use Rattle.cv_observe.proofs.OneTable.{in_window, of_window}
use Rattle.cv_observe.proofs.table.clear_at.Goals as goal

pub returns-clause-kept : goal.returns-clause-kept
returns-clause-kept c fresh =
    in_window c.args.map.now c.args.place c.window.result c.clear_seen.new.self [] c.window.ensures.each
    (c.clear_seen.ensures.kept (λ unseen. of_window c.args.map.now c.args.place c.window.result c.args.point.now [] c.window.ensures.each (fresh unseen)))
