-- What a history says of a case, from what was decided of the case, or before it is decided.
use Rattle.std.proofs.Common.{◌≡◌, ℕ, zero, suc, ◌+◌, ◌<◌, Bool, false, List, [], ◌∷◌, length, Option, Some, None, Bor, refl, sym, ap, ◌∙◌, arith}
use Rattle.std.specs.Prelude.{if◌then◌else◌, option_copied, slice_get}
use Rattle.std.specs.Option.{IsSome}
use Rattle.cv_base.specs.declared.cases.Case.{Case}
use Rattle.cv_base.specs.declared.invariants.Invariant.{Invariant}
use Rattle.cv_base.specs.PlanOf.{PlanOf}
use Rattle.cv_histories.specs.Classes.{class_of, class_over, first_checked, is_decided}
use Rattle.cv_histories.specs.Installed.{installed}
use Rattle.cv_histories.specs.Repairs.{repairs_of}
use Rattle.cv_histories.specs.Seen.{Seen}
use Rattle.cv_manager.specs.Progress.{DecidedOf, Decides, DecidesIf, classes_from}
use Rattle.cv_manager.specs.Tables.{installed_in}
use Rattle.cv_manager.specs.declared.decided.Decided.{Decided}

-- an element that is there
pub there : {X : Type 0} (xs : List X) (i : ℕ) → i < length xs → (x : X) × (slice_get xs i ≡ Some x)
there [] i within = absurd (omega arith)
there (x ∷ xs) zero within = (x, refl)
there (x ∷ xs) (suc i) within = there xs i (omega arith)

class_at : (c x : ℕ) (seen : List Seen) (ks : List Invariant) (i y : ℕ) → y ≡ x + i → i < length ks → slice_get (classes_from c x seen ks) i ≡ Some (class_over c y seen)
class_at c x seen [] i y number within = absurd (omega arith)
class_at c x seen (k ∷ ks) zero y number within = let same : x ≡ y = omega arith in ap (λ (x : ℕ). Some (class_over c x seen)) same
class_at c x seen (k ∷ ks) (suc i) y number within = class_at c (x + 1) seen ks i y (omega arith) (omega arith)

pub class_is : (plan : PlanOf) (c : ℕ) (case : Case) (past : List Seen) (d : DecidedOf) → Decides plan c case past d
    → (x : ℕ) → x < length case.candidates → slice_get d.classes x ≡ class_of plan c case x past
class_is plan c case past d decides x within =
    ap (λ ks. slice_get ks x) decides.classes
    ∙ class_at c 0 (first_checked plan c case past) case.candidates x x (omega arith) within
    ∙ ap (λ (b : Bool). if b then Some (class_over c x (first_checked plan c case past)) else None) (sym decides.decided)

undecided_installed : (plan : PlanOf) (c : ℕ) (case : Case) (past : List Seen) → is_decided plan c case past ≡ false → None ≡ installed plan c case past
undecided_installed plan c case [] undecided = refl
undecided_installed plan c case (s ∷ past) undecided = rw (undecided, installed)

pub installed_is : (plan : PlanOf) (c : ℕ) (case : Case) (past : List Seen) (o : Option DecidedOf) → DecidesIf plan c case past o → installed_in o ≡ installed plan c case past
installed_is plan c case past None undecided = undecided_installed plan c case past undecided
installed_is plan c case past (Some d) decides = decides.installed

undecided_repairs : (plan : PlanOf) (c : ℕ) (case : Case) (past : List Seen) → is_decided plan c case past ≡ false → repairs_of plan c case past ≡ []
undecided_repairs plan c case past undecided = rw (undecided, repairs_of)

-- a case with a repair is decided
pub is_some : (plan : PlanOf) (c : ℕ) (case : Case) (past : List Seen) (o : Option (Bor Decided)) → DecidesIf plan c case past (option_copied o) → (j : ℕ) → j < length (repairs_of plan c case past) → IsSome o
is_some plan c case past None undecided j within = absurd (omega (arith, ap length (undecided_repairs plan c case past undecided)))
is_some plan c case past (Some d) decides j within = refl
