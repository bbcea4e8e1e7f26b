-- A run that goes on in an arena, and its flight in the world.
use Rattle.std.proofs.Common.{◌≡◌, ◌-◌, ◌∙◌, ℕ, Bool, true, false, List, [], ◌∷◌, length, Some, refl, sym, ap}
use Rattle.std.specs.Prelude.{◌&&◌, ◌||◌, not, option_map, slice_get, IfSome}
use Rattle.cv_base.specs.PlanOf.{PlanOf}
use Rattle.cv_exec.specs.ArenaOf.{Going, entered, entry_of_going, flies_so, flight_in, is_over, one_more, wants}
use Rattle.cv_exec.specs.LiveRun.{HaveTables, MayAdopt, Span, adoptions_of}
use Rattle.cv_histories.specs.Flight.{Flight, at_entry, begun, flight_entry, flown, has_ended, may_enter, may_turn}
use Rattle.cv_histories.specs.Runs.{Run, run_at}
use Rattle.cv_histories.specs.Versions.{newest_of}
use Rattle.cv_runs.specs.PatchedRun.{Table}
use Rattle.cv_world.proofs.OneEntryMore.{have_newest, may_adopt_newest}
use Rattle.cv_world.specs.InstanceOf.{may_turn_in}
use Rattle.cv_world.specs.Stands.{IsGoing}

-- a run that an instance takes
abbrev pub taken : ℕ → ℕ → Going
taken number worker = record { run = number; worker = worker; turns = 0; adopted = [] }

pub taken_goes : (plan : PlanOf) (versions : List Table) (number worker : ℕ) (run : Run) → run_at plan number ≡ Some run → IsGoing plan versions worker (taken number worker)
taken_goes plan versions number worker run of_plan = record { run = run; of_plan = of_plan; worker = refl; tables = tt }

-- versions keep their tables under more versions
tables_grown : (versions more : List Table) (spans : List Span) → ((v : ℕ) (t : Table) → slice_get versions v ≡ Some t → slice_get more v ≡ Some t) → HaveTables versions spans → HaveTables more spans
tables_grown versions more [] stay have = tt
tables_grown versions more (s ∷ spans) stay have = (stay s.version s.table have.0, tables_grown versions more spans stay have.1)

-- it goes on under more versions behind these
pub grown_goes : (plan : PlanOf) (versions more : List Table) (i : ℕ) (g : Going) → ((v : ℕ) (t : Table) → slice_get versions v ≡ Some t → slice_get more v ≡ Some t) → IsGoing plan versions i g → IsGoing plan more i g
grown_goes plan versions more i g stay goes = record {
  run = goes.run;
  of_plan = goes.of_plan;
  worker = goes.worker;
  tables = tables_grown versions more g.adopted stay goes.tables;
}

-- what a run may do, told in two ways
may_turn_by : (over at inside : Bool) → (not over && (not at || inside)) ≡ (true && not over && not (not over && at && not inside))
may_turn_by true at inside = refl
may_turn_by false true true = refl
may_turn_by false true false = refl
may_turn_by false false inside = refl

module _ (plan : PlanOf) (versions : List Table) (i : ℕ) (g : Going) (goes : IsGoing plan versions i g) where
  -- its flight
  pub flies_there : (f : Flight) × (flight_in plan (Some g) ≡ Some f)
  flies_there = (
    flown plan (adoptions_of g.adopted) (begun plan g.run goes.run) g.turns,
    ap (option_map (λ (run : Run). flown plan (adoptions_of g.adopted) (begun plan g.run run) g.turns)) goes.of_plan,
  )

  module _ (f : Flight) (is : flight_in plan (Some g) ≡ Some f) where
    -- whether it has ended, and what it may do
    pub ended_same : has_ended plan f ≡ is_over plan (Some g)
    ended_same = sym (ap (flies_so (has_ended plan)) is)

    pub enter_same : may_enter plan f ≡ wants plan (Some g)
    enter_same = sym (ap (flies_so (may_enter plan)) is)

    pub turn_same : may_turn plan f ≡ may_turn_in plan (Some g)
    turn_same =
        may_turn_by (has_ended plan f) (at_entry f) f.entered
        ∙ ap (λ (b : Bool). true && not b && not (may_enter plan f)) ended_same
        ∙ ap (λ (b : Bool). true && not (is_over plan (Some g)) && not b) enter_same

    -- its entry at its end
    pub entry_same : entry_of_going plan (Some g) ≡ Some (flight_entry plan i f)
    entry_same = ap (option_map (flight_entry plan g.worker)) is ∙ ap (λ (n : ℕ). Some (flight_entry plan n f)) goes.worker

  -- after a turn, and after a block entry under the newest version
  pub turned_goes : IfSome (one_more (Some g)) (IsGoing plan versions i)
  turned_goes = record { run = goes.run; of_plan = goes.of_plan; worker = goes.worker; tables = goes.tables }

  pub may_adopt : slice_get versions (length versions - 1) ≡ Some (newest_of versions) → MayAdopt (length versions - 1) (newest_of versions) g.adopted
  may_adopt last = may_adopt_newest versions g.adopted last goes.tables

  pub entered_goes : slice_get versions (length versions - 1) ≡ Some (newest_of versions) → IfSome (entered (length versions - 1) (newest_of versions) (Some g)) (IsGoing plan versions i)
  entered_goes last = record { run = goes.run; of_plan = goes.of_plan; worker = goes.worker; tables = have_newest versions g.adopted last goes.tables }
