use Rattle.std.proofs.Common.{arith}
use Rattle.clearview.proofs.Orders.{rounds_none}
use Rattle.clearview.proofs.words.kept_in.Goals as goal
use Rattle.clearview.proofs.words.kept_in.Goals.{in_default-via-then-words-lt2, in_default-via-else-words-lt2+else-words-lt3}

-- the words are not two
pub returns-in_default-clause-none : goal.returns-in_default-clause-none
returns-in_default-clause-none c = λ none.
    elim c.in_default.branch [
      | in_default-via-then-words-lt2 w ↦ rounds_none c.args.words.now (λ two. grind arith)
      | in_default-via-else-words-lt2+else-words-lt3 w ↦ rounds_none c.args.words.now (λ two. grind arith)
    ]
