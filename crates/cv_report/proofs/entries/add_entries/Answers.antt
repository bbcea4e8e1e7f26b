use Rattle.std.proofs.Common.{◌∙◌, ◌++◌, ap, arith, length, refl, string_bytes}
use Rattle.std.specs.Prelude.{reverse}
use Rattle.cv_report.proofs.Lines.{all_done, oldest_first}
use Rattle.cv_report.specs.Pieces.{entry_lines_from}
use Rattle.cv_report.proofs.entries.add_entries.Goals as goal

pub returns : goal.returns
returns c =
    all_done entry_lines_from (reverse c.args.manager.now.past) c.loop-number.number _ _ (omega (arith, ap length c.history-entries.ensures)) refl c.loop-number.invariant
    ∙ ap (λ l. string_bytes c.args.text.now ++ l) (oldest_first c.args.manager.now.past)
