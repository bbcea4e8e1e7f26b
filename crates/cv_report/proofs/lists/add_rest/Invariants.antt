use Rattle.std.proofs.Common.{◌≡◌, ◌∷◌, ◌++◌, string_bytes, take}
use Rattle.std.specs.List.{flat_map}
use Rattle.cv_report.proofs.lists.add_rest.Given as goal

abbrev pub invariant-loop-row : goal.invariant-loop-row
invariant-loop-row g l =
    string_bytes l.text ≡ string_bytes l.initial.text ++ flat_map (λ r. 44 ∷ g.R.Row.written r) (take l.row-index l.rows)
