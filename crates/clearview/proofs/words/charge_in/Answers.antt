use Rattle.std.proofs.Common.{arith}
use Rattle.clearview.proofs.Orders.{not_three}
use Rattle.clearview.proofs.words.charge_in.Goals as goal
use Rattle.clearview.proofs.words.charge_in.Goals.{in_default-via-then-words-lt3, in_default-via-else-words-lt3+else-words-lt4}

-- the words are not three
pub returns-in_default-clause-none : goal.returns-in_default-clause-none
returns-in_default-clause-none c = λ none.
    elim c.in_default.branch [
      | in_default-via-then-words-lt3 w ↦ not_three c.args.words.now (λ three. grind arith) c.requires
      | in_default-via-else-words-lt3+else-words-lt4 w ↦ not_three c.args.words.now (λ three. grind arith) c.requires
    ]
