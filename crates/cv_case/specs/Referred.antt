-- References to invariants, as a list of invariants.
use Rattle.std.specs.Prelude.{List, map}
use Rattle.std.specs.Borrow.{Bor}
use Rattle.cv_base.specs.declared.invariants.Invariant.{Invariant}

-- what some references refer to
abbrev pub referred : List (Bor Invariant) → List Invariant
referred references = map (λ (r : Bor Invariant). r.now) references
