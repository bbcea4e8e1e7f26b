use Rattle.std.proofs.Common.{◌≡◌, ◌<◌, ℕ, List, [], ◌∷◌, ◌∙◌, length, Some, ap, arith}
use Rattle.cv_base.specs.declared.cases.Case.{Case}
use Rattle.cv_base.specs.declared.cases.Repair.{Repair}
use Rattle.cv_histories.specs.Installed.{best_repair}
use Rattle.cv_histories.specs.Scores.{best}
use Rattle.cv_histories.specs.Seen.{Seen}
use Rattle.cv_manager.proofs.decided.best_of.Goals as goal

best_of_some : (c : ℕ) (case : Case) (repairs : List Repair) (n : ℕ) (past : List Seen) → n ≡ length repairs → 0 < n → Some (best c case n past) ≡ best_repair c case repairs past
best_of_some c case [] n past all some = absurd (omega arith)
best_of_some c case (r ∷ rs) n past all some = ap (λ n. Some (best c case n past)) all

pub returns-else-is_empty : goal.returns-else-is_empty
returns-else-is_empty c = λ case past stands.
    ap Some (c.best.ensures.best case past stands)
    ∙ best_of_some c.args.scores.now.case case c.args.repairs.now (length c.args.scores.now.counts) past c.requires (omega arith)
