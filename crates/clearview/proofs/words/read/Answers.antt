use Rattle.std.proofs.Common.{arith}
use Rattle.clearview.proofs.Orders.{no_others}
use Rattle.clearview.proofs.words.read.Goals as goal
use Rattle.clearview.proofs.words.read.Goals.{in_default-via-then-words-lt2, in_default-via-else-words-lt2+else-words-lt3+then-words-lt4, in_default-via-else-words-lt2+else-words-lt3+else-words-lt4+else-words-lt5}

-- the words are neither two nor four
pub returns-in_default-clause-value : goal.returns-in_default-clause-value
returns-in_default-clause-value c =
    elim c.in_default.branch [
      | in_default-via-then-words-lt2 w ↦ no_others c.args.words.now (λ two. grind arith) (λ four. grind arith) c.requires.book c.requires.report
      | in_default-via-else-words-lt2+else-words-lt3+then-words-lt4 w ↦ no_others c.args.words.now (λ two. grind arith) (λ four. grind arith) c.requires.book c.requires.report
      | in_default-via-else-words-lt2+else-words-lt3+else-words-lt4+else-words-lt5 w ↦ no_others c.args.words.now (λ two. grind arith) (λ four. grind arith) c.requires.book c.requires.report
    ]
