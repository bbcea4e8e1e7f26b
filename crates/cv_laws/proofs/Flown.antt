-- A run that is told by its turns and its adoptions has the steps that they make.
use Rattle.std.proofs.Common.{◌≡◌, ℕ, zero, suc, Bool, true, false, List, [], ◌∷◌, length, Option, Some, None, refl, sym, ap, ◌∙◌, subst}
use Rattle.std.specs.Prelude.{reverse, slice_get}
use Rattle.std.specs.List.{AllByRecursion}
use Rattle.cv_base.specs.declared.plan.Mode.{Mode}
use Rattle.cv_base.specs.declared.plan.Mode.TheVariants.{Learn}
use Rattle.cv_base.specs.PlanOf.{PlanOf}
use Rattle.cv_histories.specs.EntryOf.{Taken, entry_of}
use Rattle.cv_histories.specs.Flight.{Adoption, Flight, begun, done_in, entered, entered_by, entered_next, flight_entry, flown, has_ended, joined, may_enter, may_turn, turned, turned_by, turned_next, turned_with, flight_turn}
use Rattle.cv_histories.specs.Runs.{Run, run_at}
use Rattle.cv_laws.specs.Each.{all_at}
use Rattle.cv_laws.proofs.Flights.{begun_flies, ended_honest, entered_flies, notes_none, plain_whole, turned_flies}
use Rattle.cv_laws.specs.Flying.{Flies, FliesBy, FliesPlain}
use Rattle.cv_laws.specs.Statements.{AreOf, FlownIsHonest, FlownIsOf, FlownIsPlain}
use Rattle.cv_runs.specs.Apply.{Note}
use Rattle.cv_runs.specs.BlockEntries.{is_entry, since_next}
use Rattle.cv_runs.specs.PatchedRun.{PatchedStep, Table, notes_of, patched_step, steps_of}
use Rattle.cv_runs.specs.PlainRun.{Step, plain_run}
use Rattle.cv_runs.specs.State.{Outcome, Next, Ended}

-- ---- number and run stay

record IsOf (number : ℕ) (run : Run) (f : Flight) : Type 0 where
  pub number_is : f.number ≡ number
  pub run_is : f.run ≡ run

of_turn : (number : ℕ) (run : Run) (f : Flight) (step : PatchedStep) (o : Outcome) → IsOf number run f → IsOf number run (turned_by f step o)
of_turn number run f step (Next next transfer) is = record { number_is = is.number_is; run_is = is.run_is }
of_turn number run f step (Ended end) is = record { number_is = is.number_is; run_is = is.run_is }

of_entry : (number : ℕ) (run : Run) (f : Flight) (o : Option Adoption) → IsOf number run f → IsOf number run (entered_by f o)
of_entry number run f None is = is
of_entry number run f (Some a) is = record { number_is = is.number_is; run_is = is.run_is }

of_turned : (plan : PlanOf) (number : ℕ) (run : Run) (f : Flight) (may : Bool) → IsOf number run f → IsOf number run (elim may [ true ↦ turned plan f | false ↦ f ])
of_turned plan number run f true is = of_turn number run f (patched_step f.state (is_entry f.since f.transferred) (flight_turn plan f)) (flight_turn plan f).outcome is
of_turned plan number run f false is = is

of_entered : (number : ℕ) (run : Run) (f : Flight) (o : Option Adoption) (may : Bool) → IsOf number run f → IsOf number run (elim may [ true ↦ entered_by f o | false ↦ f ])
of_entered number run f o true is = of_entry number run f o is
of_entered number run f o false is = is

of_next : (plan : PlanOf) (adoptions : List Adoption) (number : ℕ) (run : Run) (f : Flight) → IsOf number run f → IsOf number run (entered_next plan adoptions f)
of_next plan adoptions number run f is = of_entered number run f (slice_get adoptions (length f.versions)) (may_enter plan f) is

flown_of : (plan : PlanOf) (adoptions : List Adoption) (number : ℕ) (run : Run) (turns : ℕ) → IsOf number run (flown plan adoptions (begun plan number run) turns)
unfolding flown
flown_of plan adoptions number run zero = of_next plan adoptions number run (begun plan number run) (record { number_is = refl; run_is = refl })
flown_of plan adoptions number run (suc turns) =
    let before = flown plan adoptions (begun plan number run) turns in
    of_next plan adoptions number run (turned_next plan before) (of_turned plan number run before (may_turn plan before) (flown_of plan adoptions number run turns))

-- ---- it flies under the versions that it adopted

entry_flies : (plan : PlanOf) (versions : List Table) (adoptions : List Adoption) (f : Flight) (k : ℕ) (o : Option Adoption) → slice_get adoptions k ≡ o → AreOf versions adoptions → may_enter plan f ≡ true → Flies plan versions f → Flies plan versions (entered_by f o)
entry_flies plan versions adoptions f k None is are may flies = flies
entry_flies plan versions adoptions f k (Some a) is are may flies =
    entered_flies plan versions a.version a.table f (all_at (λ (a : Adoption). slice_get versions a.version ≡ Some a.table) adoptions k a are is) may flies

next_flies : (plan : PlanOf) (versions : List Table) (adoptions : List Adoption) (f : Flight) (k : ℕ) (may : Bool) → may_enter plan f ≡ may → AreOf versions adoptions → Flies plan versions f → Flies plan versions (elim may [ true ↦ entered_by f (slice_get adoptions k) | false ↦ f ])
next_flies plan versions adoptions f k true is are flies = entry_flies plan versions adoptions f k (slice_get adoptions k) refl are is flies
next_flies plan versions adoptions f k false is are flies = flies

turn_flies : (plan : PlanOf) (versions : List Table) (f : Flight) (may : Bool) → may_turn plan f ≡ may → Flies plan versions f → Flies plan versions (elim may [ true ↦ turned plan f | false ↦ f ])
turn_flies plan versions f true is flies = turned_flies plan versions f is flies
turn_flies plan versions f false is flies = flies

flown_flies : (plan : PlanOf) (versions : List Table) (adoptions : List Adoption) (number : ℕ) (run : Run) (turns : ℕ) → AreOf versions adoptions → Flies plan versions (flown plan adoptions (begun plan number run) turns)
unfolding flown
flown_flies plan versions adoptions number run zero are =
    next_flies plan versions adoptions (begun plan number run) 0 (may_enter plan (begun plan number run)) refl are (begun_flies plan versions number run)
flown_flies plan versions adoptions number run (suc turns) are =
    let before = flown plan adoptions (begun plan number run) turns in
    let after = turned_next plan before in
    next_flies plan versions adoptions after (length after.versions) (may_enter plan after) refl are
    (turn_flies plan versions before (may_turn plan before) refl (flown_flies plan versions adoptions number run turns are))

-- ---- so its entry at its end is honest, and a learn run is the plain run

pub flown_is_honest : FlownIsHonest
flown_is_honest plan versions adoptions number run turns worker of_plan are ended =
    let f = flown plan adoptions (begun plan number run) turns in
    let of = flown_of plan adoptions number run turns in
    ended_honest plan versions worker f (ap (run_at plan) of.number_is ∙ of_plan ∙ ap Some (sym of.run_is)) ended (flown_flies plan versions adoptions number run turns are)

pub flown_is_of : FlownIsOf
flown_is_of plan adoptions number run turns = let of = flown_of plan adoptions number run turns in (of.number_is, of.run_is)

-- who took which run
abbrev taken_of : ℕ → ℕ → Mode → List ℕ → Taken
taken_of number worker mode input = record { number = number; worker = worker; mode = mode; input = input }

-- of plain steps, without notes and versions
plain_entry : (plan : PlanOf) (t u : Taken) (vs : List ℕ) (steps plain : List Step) (notes : List Note) → t ≡ u → vs ≡ [] → steps ≡ plain → notes ≡ [] → entry_of plan t (reverse (joined vs)) steps notes ≡ entry_of plan u [] plain []
plain_entry plan t u vs steps plain notes taken none same silent =
    ap (λ (t : Taken). entry_of plan t (reverse (joined vs)) steps notes) taken
    ∙ ap (λ (vs : List ℕ). entry_of plan u (reverse (joined vs)) steps notes) none
    ∙ ap (λ (steps : List Step). entry_of plan u [] steps notes) same
    ∙ ap (λ (notes : List Note). entry_of plan u [] plain notes) silent

pub flown_is_plain : FlownIsPlain
flown_is_plain plan number worker run turns learns ended =
    let f = flown plan [] (begun plan number run) turns in
    let of = flown_of plan [] number run turns in
    let flies = flown_flies plan [] [] number run turns tt in
    let plain : FliesPlain plan f = subst (λ (mode : Mode). FliesBy mode plan [] f) (ap (λ (r : Run). r.mode) of.run_is ∙ learns) flies.of_mode in
    let steps : steps_of (done_in f) ≡ plain_run plan.image run.input plan.budget =
    sym (plain_whole plan 0 f flies.within f.over ended plain.goes) ∙ ap (λ (r : Run). plain_run plan.image r.input plan.budget) of.run_is in
    let taken : taken_of f.number worker f.run.mode f.run.input ≡ taken_of number worker Learn run.input =
    ap (λ (n : ℕ). taken_of n worker f.run.mode f.run.input) of.number_is
    ∙ ap (λ (r : Run). taken_of number worker r.mode r.input) of.run_is
    ∙ ap (λ (mode : Mode). taken_of number worker mode run.input) learns in
    (steps, plain_entry plan _ _ f.versions (steps_of (done_in f)) (plain_run plan.image run.input plan.budget) (notes_of (done_in f)) taken plain.none steps (notes_none f.steps plain.unpatched))
