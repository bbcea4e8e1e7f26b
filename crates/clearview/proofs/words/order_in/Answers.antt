use Rattle.std.proofs.Common.{arith}
use Rattle.clearview.proofs.Orders.{posts_none}
use Rattle.clearview.proofs.words.order_in.Goals as goal
use Rattle.clearview.proofs.words.order_in.Goals.{in_default-via-then-words-lt2, in_default-via-else-words-lt2+else-words-lt3+else-words-lt4}

-- the words are neither two nor three
pub returns-in_default-clause-none : goal.returns-in_default-clause-none
returns-in_default-clause-none c = λ none.
    elim c.in_default.branch [
      | in_default-via-then-words-lt2 w ↦ posts_none c.args.words.now (λ two. grind arith) (λ three. grind arith)
      | in_default-via-else-words-lt2+else-words-lt3+else-words-lt4 w ↦ posts_none c.args.words.now (λ two. grind arith) (λ three. grind arith)
    ]
