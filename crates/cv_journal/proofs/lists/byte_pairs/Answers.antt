use Rattle.std.proofs.Common.{ℕ, List, ◌-◌, ◌∙◌, ap, drop, length, take}
use Rattle.cv_journal.specs.Reading.{byte_pairs}
use Rattle.cv_journal.specs.Steps.{prepended}
use Rattle.cv_journal.proofs.Loops.{byte_more}
use Rattle.cv_journal.proofs.lists.byte_pairs.Goals as goal

pub loop-left-preserved : goal.loop-left-preserved
loop-left-preserved c =
    ap (λ (l : List ℕ). prepended l (byte_pairs (take (length c.loop-left.left.now - 2) (drop 2 c.loop-left.left.now)))) c.in_ok-push.ensures.items
    ∙ byte_more c.loop-left.bytes.items c.in-Some.byte c.loop-left.left.now c.in-len2-up.len_at_least c.in-Some.ensures
    ∙ c.loop-left.invariant
