use Rattle.std.proofs.Common.{◌≡◌, ℕ, take}
use Rattle.std.specs.List.{flat_map}
use Rattle.std.specs.Prelude.{slice_get}
use Rattle.cv_repair.specs.Numbered.{repairs_at}
use Rattle.cv_repair.proofs.actions.repairs.Given as goal

abbrev pub invariant-loop-number : goal.invariant-loop-number
invariant-loop-number l =
    let candidates = l.candidates in
    l.list.items ≡ flat_map (λ (x : ℕ). repairs_at l.map candidates x (slice_get candidates x)) (take l.number-index l.chosen)
