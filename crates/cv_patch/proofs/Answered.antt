-- What was answered stays so, and one more answer.
use Rattle.std.proofs.Common.{ℕ, List, [], ◌∷◌, ◌++◌}
use Rattle.std.specs.List.{AllByRecursion}

pub all_and_one : (P Q : ℕ → Type 0) (last : ℕ) → ((n : ℕ) → P n → Q n) → Q last → (ns : List ℕ) → AllByRecursion P ns → AllByRecursion Q (ns ++ last ∷ [])
all_and_one P Q last kept too [] all = (too, tt)
all_and_one P Q last kept too (n ∷ ns) all = (kept n all.0, all_and_one P Q last kept too ns all.1)
