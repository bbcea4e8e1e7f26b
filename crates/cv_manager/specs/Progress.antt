-- How far a case has come: its checked failures and, once it is decided, the classes of its
-- candidates, its repairs with their scores, and the installed one (docs/REPAIR.md, "Classes" to
-- "Installation").
use Rattle.std.specs.Prelude.{◌≡◌, ℕ, Bool, true, false, ◌+◌, List, [], ◌∷◌, length, Option, Some, None}
use Rattle.cv_base.specs.declared.cases.Case.{Case}
use Rattle.cv_base.specs.declared.cases.Class.{Class}
use Rattle.cv_base.specs.declared.cases.Class.TheVariants.{Highly, Moderately, Slightly, Not}
use Rattle.cv_base.specs.declared.cases.Repair.{Repair}
use Rattle.cv_base.specs.declared.invariants.Invariant.{Invariant}
use Rattle.cv_base.specs.PlanOf.{PlanOf}
use Rattle.cv_histories.specs.Classes.{checked_failures, class_over, first_checked, is_decided}
use Rattle.cv_histories.specs.Installed.{installed}
use Rattle.cv_histories.specs.Repairs.{is_highly, is_moderately, repairs_of}
use Rattle.cv_histories.specs.Seen.{Seen}
use Rattle.cv_score.specs.Charged.{ScoresOf, StandsFor}

pub record DecidedOf : Type 0 where
  pub classes : List Class
  pub repairs : List Repair
  pub scores : ScoresOf
  pub installed : Option ℕ

pub record ProgressOf : Type 0 where
  pub checked : ℕ
  pub decided : Option DecidedOf

-- before the first checked failure
abbrev pub no_progress : ProgressOf
no_progress = record { checked = 0; decided = None }

-- the classes of candidates from number x on
abbrev pub classes_from : ℕ → ℕ → List Seen → List Invariant → List Class
classes_from c x seen [] = []
classes_from c x seen (k ∷ ks) = class_over c x seen ∷ classes_from c (x + 1) seen ks

-- what was decided of case c is so after this history
pub record Decides (plan : PlanOf) (c : ℕ) (case : Case) (past : List Seen) (d : DecidedOf) : Type 0 where
  pub decided : is_decided plan c case past ≡ true
  pub classes : d.classes ≡ classes_from c 0 (first_checked plan c case past) case.candidates
  pub repairs : d.repairs ≡ repairs_of plan c case past
  pub number : d.scores.case ≡ c
  pub counts : length d.scores.counts ≡ length d.repairs
  pub scores : StandsFor d.scores case past
  pub installed : d.installed ≡ installed plan c case past

abbrev pub DecidesIf : PlanOf → ℕ → Case → List Seen → Option DecidedOf → Type 0
DecidesIf plan c case past None = is_decided plan c case past ≡ false
DecidesIf plan c case past (Some d) = Decides plan c case past d

-- the progress of case c is that after this history
pub record Stands (plan : PlanOf) (c : ℕ) (past : List Seen) (case : Case) (p : ProgressOf) : Type 0 where
  pub checked : p.checked ≡ length (checked_failures c case past)
  pub decided : DecidesIf plan c case past p.decided

-- the progress of each case, from number c on
abbrev pub StandFrom : PlanOf → ℕ → List Seen → List Case → List ProgressOf → Type 0
StandFrom plan c past [] [] = Unit {0}
StandFrom plan c past (case ∷ cases) (p ∷ ps) = Stands plan c past case p × StandFrom plan (c + 1) past cases ps
StandFrom plan c past _ _ = ⊥

-- the numbers of the candidates that are chosen, by the classes of all

abbrev pub is_same_class : Class → Class → Bool
is_same_class Highly Highly = true
is_same_class Moderately Moderately = true
is_same_class Slightly Slightly = true
is_same_class Not Not = true
is_same_class _ _ = false

abbrev pub numbers_where : (Class → Bool) → ℕ → List Class → List ℕ
numbers_where test x [] = []
numbers_where test x (k ∷ ks) = elim (test k) [ true ↦ x ∷ numbers_where test (x + 1) ks | false ↦ numbers_where test (x + 1) ks ]

abbrev pub or_numbers : List ℕ → List ℕ → List ℕ
or_numbers [] others = others
or_numbers (x ∷ xs) others = x ∷ xs

abbrev pub chosen_numbers : List Class → List ℕ
chosen_numbers classes = or_numbers (numbers_where is_highly 0 classes) (numbers_where is_moderately 0 classes)
