-- The last change of a value, one turn after another.
use Rattle.std.proofs.Common.{◌≡◌, ◌<◌, ◌+◌, ℕ, zero, suc, Bool, true, false, List, [], ◌∷◌, length, replicate, Option, Some, None, refl, sym, ap, ◌∙◌, arith}
use Rattle.std.proofs.lemmas.Option.{same_Some}
use Rattle.std.specs.Prelude.{◌==◌, if◌then◌else◌, map, option_map, slice_get, slice_index}
use Rattle.std.specs.List.{range_with_len}
use Rattle.cv_base.specs.PlanOf.{PlanOf}
use Rattle.cv_replay.specs.Changed.{AreSince, cell_after, last_noted, or_before, turn_in}
use Rattle.cv_replay.specs.ReplayOf.{register}
use Rattle.cv_replay.specs.Said.{are_same, changed_before, state_before, value_before}
use Rattle.cv_replay.specs.declared.stand.Stand.{Stand}
use Rattle.cv_replay.specs.Script.{ScriptOf, steps_by_script}
use Rattle.cv_replay.specs.Standing.{turn_of}
use Rattle.cv_machine.specs.Held.{Held, state_of}
use Rattle.cv_shadow.specs.declared.frames.Core.{Core}
use Rattle.cv_runs.specs.PlainRun.{Step}
use Rattle.cv_runs.specs.State.{State}

-- by whether the values are the same
noted_by : (same : Bool) (turn : ℕ) (found before last : Option ℕ) → last ≡ or_before found before → (if same then last else Some turn) ≡ or_before (if same then found else Some turn) before
noted_by true turn found before last is = is
noted_by false turn found before last is = refl

-- with one more turn
pub one_more : (value : ℕ → Option ℕ) (turn v w : ℕ) (found before : Option ℕ) → value turn ≡ Some v → value (turn + 1) ≡ Some w → changed_before value turn ≡ or_before found before
    → changed_before value (turn + 1) ≡ or_before (last_noted v w turn found) before
one_more value turn v w found before now next is =
    let one : turn + 1 ≡ suc turn = omega arith in
    ap (changed_before value) one
    ∙ ap (λ (o : Option ℕ). if are_same o (value (suc turn)) then changed_before value turn else Some turn) now
    ∙ ap (λ (o : Option ℕ). if are_same (Some v) o then changed_before value turn else Some turn) (ap value (sym one) ∙ next)
    ∙ noted_by (v == w) turn found before (changed_before value turn) is

-- nothing before the first turn
or_none : (found : Option ℕ) → or_before found None ≡ found
or_none None = refl
or_none (Some turn) = refl

-- ---- of each register

register_at : (o : Option State) (regs : List ℕ) (reg : ℕ) → option_map (λ (s : State). s.core.regs) o ≡ Some regs → option_map (register reg) o ≡ Some (slice_index regs reg)
register_at None regs reg is = absurd cc
register_at (Some s) regs reg is = ap Some (ap (λ (l : List ℕ). slice_index l reg) (same_Some s.core.regs regs is))

cell_by : (same : Bool) (turn cell : ℕ) → turn_in (if same then cell else turn + 1) ≡ (if same then turn_in cell else Some turn)
cell_by true turn cell = refl
cell_by false turn cell = let one : turn + 1 ≡ suc turn = omega arith in ap turn_in one

cells_after : (before after turn : ℕ) (cell : Option ℕ) → option_map turn_in (option_map (cell_after before after (turn + 1)) cell) ≡ option_map (last_noted before after turn) (option_map turn_in cell)
cells_after before after turn None = refl
cells_after before after turn (Some cell) = ap Some (cell_by (before == after) turn cell)

-- with one more turn
pub since_more : (steps : List Step) (turn : ℕ) (before after : List ℕ) (old new : List ℕ)
    → option_map (λ (s : State). s.core.regs) (state_before steps turn) ≡ Some before
    → option_map (λ (s : State). s.core.regs) (state_before steps (turn + 1)) ≡ Some after
    → ((reg : ℕ) → reg < 32 → slice_get new reg ≡ option_map (cell_after (slice_index before reg) (slice_index after reg) (turn + 1)) (slice_get old reg))
    → length new ≡ 32 → AreSince steps turn old → AreSince steps (turn + 1) new
since_more steps turn before after old new now next noted all is = record {
  all = all;
  each = λ reg below.
      let value = value_before (register reg) steps in
      let last = changed_before value turn in
      let v = slice_index before reg in
      let w = slice_index after reg in
      ap (option_map turn_in) (noted reg below)
      ∙ cells_after v w turn (slice_get old reg)
      ∙ ap (option_map (last_noted v w turn)) (is.each reg below)
      ∙ ap Some (sym (one_more value turn v w last None (register_at (state_before steps turn) before reg now) (register_at (state_before steps (turn + 1)) after reg next) (sym (or_none last))
      ∙ or_none (last_noted v w turn last)));
}

-- nothing is noted at first
pub copy_at : {X : Type 0} (x : X) (n reg : ℕ) → reg < n → slice_get (replicate n x) reg ≡ Some x
copy_at x zero reg below = absurd (omega arith)
copy_at x (suc n) zero below = refl
copy_at x (suc n) (suc reg) below = copy_at x n reg (omega arith)

-- and so the cells say before the first turn
pub none_since : (steps : List Step) → AreSince steps 0 (replicate 32 0)
none_since steps = record {
  all = refl;
  each = λ reg below. ap (option_map turn_in) (copy_at {X = ℕ} 0 32 reg below);
}

-- the registers of a stand's machine
pub regs_at : (s : ScriptOf) (plan : PlanOf) (turn : ℕ) (stand : Stand) (m : Held) (core : Core) → stand.flight.plan ≡ plan → turn_of stand ≡ turn
    → state_before (steps_by_script stand.flight.plan s) (turn_of stand) ≡ Some (state_of m) → core ≡ m.core
    → option_map (λ (s : State). s.core.regs) (state_before (steps_by_script plan s) turn) ≡ Some core.regs
regs_at s plan turn stand m core of_plan at is same =
    ap (λ (p : PlanOf). option_map (λ (s : State). s.core.regs) (state_before (steps_by_script p s) turn)) (sym of_plan)
    ∙ ap (λ (n : ℕ). option_map (λ (s : State). s.core.regs) (state_before (steps_by_script stand.flight.plan s) n)) (sym at)
    ∙ ap (option_map (λ (s : State). s.core.regs)) is
    ∙ ap (λ (c : Core). Some c.regs) (sym same)

-- numbers one by one
each_from : {X : Type 0} (xs : List X) (f : ℕ → X) (from n : ℕ) → length xs ≡ n → ((k : ℕ) → k < n → slice_get xs k ≡ Some (f (from + k))) → xs ≡ map f (range_with_len from n)
each_from [] f from zero count each = refl
each_from [] f from (suc n) count each = absurd (omega arith)
each_from (x ∷ xs) f from zero count each = absurd (omega arith)
each_from (x ∷ xs) f from (suc n) count each =
    let first : x ≡ f (from + 0) = same_Some x (f (from + 0)) (each 0 (omega arith)) in
    let start : from + 0 ≡ from = omega arith in
    let rest : xs ≡ map f (range_with_len (from + 1) n) =
    each_from xs f (from + 1) n (omega arith) (λ k below.
    let next : from + suc k ≡ from + 1 + k = omega arith in
    each (suc k) (omega arith) ∙ ap (λ (i : ℕ). Some (f i)) next) in
    ap (λ y. y ∷ xs) (first ∙ ap f start) ∙ ap (λ ys. f from ∷ ys) rest

pub each_is : {X : Type 0} (xs : List X) (f : ℕ → X) (n : ℕ) → length xs ≡ n → ((k : ℕ) → k < n → slice_get xs k ≡ Some (f k)) → xs ≡ map f (range_with_len 0 n)
each_is xs f n count each = each_from xs f 0 n count (λ k below. let same : k ≡ 0 + k = omega arith in each k below ∙ ap (λ (i : ℕ). Some (f i)) same)
