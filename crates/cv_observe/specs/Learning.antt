-- What is learned of what is kept at a point (docs/REPAIR.md, "Learning").
use Rattle.std.specs.Prelude.{ℕ, Bool, not, ◌&&◌, ◌||◌, ◌==◌, ◌+◌, if◌then◌else◌, List, [], ◌∷◌, ◌++◌, filter, map, unwrap_or}
use Rattle.std.specs.List.{flat_map, list_any}
use Rattle.cv_base.specs.declared.invariants.Invariant.{Invariant}
use Rattle.cv_base.specs.declared.invariants.Invariant.TheVariants.{OneOf, Lower, LessThan}
use Rattle.cv_base.specs.Picture.{Picture}
use Rattle.cv_isa.specs.Uses.{has}
use Rattle.cv_observe.specs.declared.point.Point.{Point}
use Rattle.cv_observe.specs.declared.register.Register.{Register}
use Rattle.cv_runs.specs.Learned.{sp_offset}
use Rattle.cv_runs.specs.Text.{window_registers}

abbrev pub one_of_kept : ℕ → Register → List Invariant
one_of_kept p k = if k.values.more then [] else OneOf p k.number k.values.numbers.items ∷ []

abbrev pub lower_kept : ℕ → Register → List Invariant
lower_kept p k = if k.values.more then Lower p k.number (unwrap_or k.least 0) ∷ [] else []

-- a register that is read is one of the two, and was always in order with the other one
abbrev pub tells_pair : ℕ → ℕ → Register → Bool
tells_pair a b k = ((k.number == a) && has k.above b) || ((k.number == b) && has k.below a)

abbrev pub pair_kept : List Register → ℕ → ℕ → Bool
pair_kept registers a b = not (a == b) && list_any (tells_pair a b) registers

abbrev pub above_kept : ℕ → List Register → List ℕ → ℕ → List Invariant
above_kept p registers window a = map (λ b. LessThan p a b) (filter (λ b. pair_kept registers a b) window)

abbrev pub offset_kept : ℕ → Point → List Invariant
offset_kept p k = if k.offsets.more then [] else sp_offset p k.offsets.numbers.items

abbrev pub learned_kept : ℕ → List ℕ → Point → List Invariant
learned_kept p window k =
    flat_map (one_of_kept p) k.registers.items ++ flat_map (lower_kept p) k.registers.items ++ flat_map (above_kept p k.registers.items window) window ++ offset_kept p k

-- at a point, if it was seen, and at the points from p on
abbrev pub learned_if_seen : Picture → ℕ → Point → List Invariant
learned_if_seen text p k = if k.seen then learned_kept p (window_registers text p) k else []

abbrev pub learned_from : Picture → ℕ → List Point → List Invariant
learned_from text p [] = []
learned_from text p (k ∷ points) = learned_if_seen text p k ++ learned_from text (p + 4) points
