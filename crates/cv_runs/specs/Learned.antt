-- What is learned of observations of normal runs (docs/REPAIR.md, "Learning").
use Rattle.std.specs.Prelude.{ℕ, Bool, not, ◌&&◌, ◌||◌, ◌==◌, nat_le, if◌then◌else◌, List, [], ◌∷◌, ◌++◌, length, filter, map, fold, unwrap_or}
use Rattle.std.specs.BTreeSet.{insert_key}
use Rattle.std.specs.List.{flat_map, list_all, list_any, reduce}
use Rattle.std.specs.Ordering.{nat_cmp}
use Rattle.cv_base.specs.declared.entries.Observation.{Observation}
use Rattle.cv_base.specs.declared.invariants.Invariant.{Invariant}
use Rattle.cv_base.specs.declared.invariants.Invariant.TheVariants.{OneOf, Lower, LessThan, SpOffset}
use Rattle.cv_base.specs.Picture.{Picture}
use Rattle.cv_base.specs.Registers.{register}
use Rattle.cv_runs.specs.Arithmetic.{minus32, signed_lt}
use Rattle.cv_runs.specs.Invariants.{signed_le}
use Rattle.cv_runs.specs.PlainRun.{Step}
use Rattle.cv_runs.specs.State.{State}
use Rattle.cv_runs.specs.Text.{reads_at, window_registers}
use Rattle.cv_shadow.specs.Frames.{frame_sp}

-- what is seen before a turn, and before each turn of a run
abbrev pub seen_in : State → Observation
seen_in s = record { point = s.core.pc; regs = s.core.regs; frame_sp = frame_sp s.core.frames }

abbrev pub observations : List Step → List Observation
observations steps = map (λ (step : Step). seen_in step.before) steps

-- the distinct numbers of a list, ascending
abbrev pub distinct : List ℕ → List ℕ
distinct numbers = fold (insert_key nat_cmp) [] numbers

abbrev pub values_of : ℕ → List Observation → List ℕ
values_of r seen = map (λ (o : Observation). register o.regs r) seen

-- the least of some numbers, as two's complement numbers
abbrev pub lesser : ℕ → ℕ → ℕ
lesser a b = if signed_lt b a then b else a

abbrev pub signed_least : List ℕ → ℕ
signed_least numbers = unwrap_or (reduce lesser numbers) 0

-- what is learned at the point p of what was seen there

abbrev pub one_of : ℕ → ℕ → List ℕ → List Invariant
one_of p r values = if nat_le (length values) 4 then OneOf p r values ∷ [] else []

abbrev pub one_ofs : ℕ → List ℕ → List Observation → List Invariant
one_ofs p reads seen = flat_map (λ r. one_of p r (distinct (values_of r seen))) reads

abbrev pub lower : ℕ → ℕ → List ℕ → List Invariant
lower p r values = if nat_le (length (distinct values)) 4 then [] else Lower p r (signed_least values) ∷ []

abbrev pub lowers : ℕ → List ℕ → List Observation → List Invariant
lowers p reads seen = flat_map (λ r. lower p r (values_of r seen)) reads

-- two different registers of the window, of which the instruction reads one at least
abbrev pub is_pair : List ℕ → ℕ → ℕ → Bool
is_pair reads a b = not (a == b) && (list_any (λ r. r == a) reads || list_any (λ r. r == b) reads)

abbrev pub is_ordered : List Observation → ℕ → ℕ → Bool
is_ordered seen a b = list_all (λ (o : Observation). signed_le (register o.regs a) (register o.regs b)) seen

abbrev pub less_thans : ℕ → List ℕ → List ℕ → List Observation → List Invariant
less_thans p reads window seen =
    flat_map (λ a. map (λ b. LessThan p a b) (filter (λ b. is_pair reads a b && is_ordered seen a b) window)) window

abbrev pub offsets_of : List Observation → List ℕ
offsets_of seen = distinct (map (λ (o : Observation). minus32 (register o.regs 2) o.frame_sp) seen)

abbrev pub sp_offset : ℕ → List ℕ → List Invariant
sp_offset p (offset ∷ []) = SpOffset p offset ∷ []
sp_offset p _ = []

abbrev pub learned_at : ℕ → List ℕ → List ℕ → List Observation → List Invariant
learned_at p reads window seen =
    one_ofs p reads seen ++ lowers p reads seen ++ less_thans p reads window seen ++ sp_offset p (offsets_of seen)

abbrev pub seen_at : List Observation → ℕ → List Observation
seen_at seen p = filter (λ (o : Observation). o.point == p) seen

-- the invariants that are learned of observations, in order
abbrev pub learned : Picture → List Observation → List Invariant
learned image seen =
    flat_map (λ p. learned_at p (reads_at image p) (window_registers image p) (seen_at seen p))
    (distinct (map (λ (o : Observation). o.point) seen))
