-- The less-than invariants with one lower register (docs/REPAIR.md, "Learning").
use Rattle.std.specs.Prelude.{ℕ, ◌&&◌, List, filter, map}
use Rattle.cv_base.specs.declared.entries.Observation.{Observation}
use Rattle.cv_base.specs.declared.invariants.Invariant.{Invariant}
use Rattle.cv_base.specs.declared.invariants.Invariant.TheVariants.{LessThan}
use Rattle.cv_runs.specs.Learned.{is_pair, is_ordered}

-- register a below those of the window that it was never above
abbrev pub above : ℕ → ℕ → List ℕ → List ℕ → List Observation → List Invariant
above p a reads window seen = map (λ b. LessThan p a b) (filter (λ b. is_pair reads a b && is_ordered seen a b) window)
