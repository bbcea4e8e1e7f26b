use Rattle.std.proofs.Common.{◌≡◌, ◌-◌, true, false, eqb, rules, tests, arith}
use Rattle.cv_runs.specs.Text.{inst_at, transfers}
use Rattle.cv_blocks.proofs.WindowSets.{stopped_sets, more_sets}
use Rattle.cv_blocks.proofs.windows.+read_before.Goals as goal

pub returns-then-is_transfer : goal.returns-then-is_transfer
returns-then-is_transfer t c =
    let image = c.args.listing.now in
    let is : transfers (inst_at image (c.args.point - 4)) ≡ true = search rules in
    stopped_sets image c.args.point c.args.count c.empty-then-is_transfer.result is c.empty-then-is_transfer.ensures

pub returns : goal.returns
returns t c =
    let image = c.args.listing.now in
    let goes : transfers (inst_at image (c.args.point - 4)) ≡ false = search rules in
    let inside : eqb c.args.point image.text_base ≡ false = search (rules, tests) in
    more_sets image c.args.point c.args.count c.union.result c.read_by-here.result c.read_before.result (omega arith) inside goes c.union.ensures (search rules) c.read_before.ensures
