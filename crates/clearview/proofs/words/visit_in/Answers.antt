use Rattle.std.proofs.Common.{arith}
use Rattle.clearview.proofs.Orders.{turn_none}
use Rattle.clearview.proofs.words.visit_in.Goals as goal
use Rattle.clearview.proofs.words.visit_in.Goals.{in_default-via-then-words-lt5, in_default-via-else-words-lt5+else-words-lt6}

-- the words are not five
pub returns-in_default-clause-none : goal.returns-in_default-clause-none
returns-in_default-clause-none c = λ none.
    elim c.in_default.branch [
      | in_default-via-then-words-lt5 w ↦ turn_none c.args.words.now (λ five. grind arith)
      | in_default-via-else-words-lt5+else-words-lt6 w ↦ turn_none c.args.words.now (λ five. grind arith)
    ]
