-- What a replay goes by: an entry, and the tables of the versions. Conditions of private parts, which no reader has to believe.
use Rattle.std.specs.Prelude.{◌≡◌, ◌≤◌, ◌<◌, ℕ, List, [], ◌∷◌, length, Option, Some, option_map}
use Rattle.std.specs.List.{AllByRecursion}
use Rattle.cv_base.specs.declared.entries.Adopted.{Adopted}
use Rattle.cv_base.specs.declared.entries.Entry.{Entry}
use Rattle.cv_base.specs.PlanOf.{PlanOf}
use Rattle.cv_histories.specs.Flight.{Adoption, Flight, begun, flown}
use Rattle.cv_histories.specs.Rows.{written}
use Rattle.cv_histories.specs.Runs.{Run, run_at}
use Rattle.cv_replay.specs.Said.{steps_said}
use Rattle.cv_replay.specs.Statements.{StandsBefore, adoptions_said}
use Rattle.cv_runs.specs.PatchedRun.{Table}
use Rattle.cv_runs.specs.PlainRun.{Step}

pub record ScriptOf : Type 0 where
  pub entry : Entry
  pub versions : List Table

abbrev pub steps_by_script : PlanOf → ScriptOf → List Step
steps_by_script plan s = steps_said plan s.versions s.entry

abbrev pub adoptions : ScriptOf → List Adoption
adoptions s = adoptions_said s.versions s.entry.adopted

-- its run after so many turns
abbrev pub flight_at : PlanOf → ScriptOf → ℕ → Option Flight
flight_at plan s turn = option_map (λ (run : Run). flown plan (adoptions s) (begun plan s.entry.run run) turn) (run_at plan s.entry.run)

-- it is there, and stands before its next turn
pub record HasFlight (plan : PlanOf) (s : ScriptOf) (turn : ℕ) : Type 0 where
  pub flight : Flight
  pub is : flight_at plan s turn ≡ Some flight
  pub stands : StandsBefore plan (steps_by_script plan s) turn flight

-- versions that never fall
abbrev pub Rises : List ℕ → Type 0
Rises [] = Unit {0}
Rises (v ∷ []) = Unit {0}
Rises (v ∷ w ∷ vs) = (v ≤ w) × Rises (w ∷ vs)

-- no row counts nothing
abbrev pub AreCounted : List Adopted → Type 0
AreCounted rows = AllByRecursion (λ (a : Adopted). 1 ≤ a.entries) rows

pub record IsScript (plan : PlanOf) (s : ScriptOf) : Type 0 where
  pub turns : s.entry.turns ≡ length (steps_by_script plan s)
  pub some : 0 < s.entry.turns
  pub flies : (turn : ℕ) → turn < s.entry.turns → HasFlight plan s turn
  pub counted : AreCounted s.entry.adopted
  pub places : AllByRecursion (λ (a : Adopted). a.version < length s.versions) s.entry.adopted
  pub rises : Rises (written s.entry.adopted)
