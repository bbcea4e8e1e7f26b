use Rattle.std.proofs.Common.{◌≡◌, ℕ, ◌≤◌, List, [], ◌∷◌, refl, ap, length, drop, arith}
use Rattle.std.proofs.lemmas.Grind.{common_steps}
use Rattle.std.proofs.lemmas.List.{drop_all}
use Rattle.cv_manager.specs.Progress.{ProgressOf}
use Rattle.cv_manager.specs.Tables.{changes_from}
use Rattle.cv_manager.proofs.tables.changes_with.Goals as goal
use Rattle.cv_manager.proofs.tables.changes_with.Goals.{in-Some+in_ok-add_change, in_default}

-- where no progress is left after the entry, there is no change
none_left : (entry c i : ℕ) (ps qs : List ProgressOf) → length qs ≤ i → changes_from entry c ps (drop i qs) ≡ []
none_left entry c i [] qs past = refl
none_left entry c i (p ∷ ps) qs past = ap (changes_from entry c (p ∷ ps)) (drop_all i qs past)

pub loop-case-preserved : goal.loop-case-preserved
loop-case-preserved c = elim c.match-get.branch [
  | in-Some+in_ok-add_change w ↦ grind (arith, common_steps)
  | in_default w ↦ grind (arith, common_steps, none_left)
]
