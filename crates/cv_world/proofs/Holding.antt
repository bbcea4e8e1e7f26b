-- What an instance holds, after each of its methods.
use Rattle.std.proofs.Common.{◌≡◌, ◌∙◌, ℕ, Bool, true, false, [], Option, Some, None, refl, sym, ap, subst}
use Rattle.std.specs.Prelude.{◌&&◌, not, is_some, OnErr, OnOk, Ok, Err, Result}
use Rattle.std.proofs.lemmas.Bool.{both_ways}
use Rattle.cv_base.specs.PlanOf.{PlanOf}
use Rattle.cv_exec.specs.ArenaOf.{ArenaOf, Going, entered, flies_so, flight_in, is_over, one_more, wants}
use Rattle.cv_exec.specs.RecordOf.{RecordOf}
use Rattle.cv_histories.specs.Flight.{Flight, at_entry, has_ended, may_enter}
use Rattle.cv_runs.specs.PatchedRun.{Table}
use Rattle.cv_world.specs.InstanceOf.{IsHeld, going_in, going_of}

-- ---- begins

-- it has no record, and the run that begins
pub begins : (old new : ArenaOf) (kept : Option RecordOf) (run worker : ℕ) → going_in kept old.going ≡ None
    → new.going ≡ Some (record { run = run; worker = worker; turns = 0; adopted = [] }) → IsHeld new true kept
begins old new None run worker none is = record { has = ap is_some (sym is); keeps = record { finished = tt; one = tt } }
begins old new (Some r) run worker none is = absurd cc

-- ---- turns

-- a turn more makes no run and ends none
more_some : (going : Option Going) → is_some (one_more going) ≡ is_some going
more_some None = refl
more_some (Some g) = refl

-- a run that has not ended is the arena's, and goes on there
pub turns_on : (old new : ArenaOf) (flying : Bool) (kept : Option RecordOf) → IsHeld old flying kept → is_over old.plan (going_in kept old.going) ≡ false
    → new.going ≡ one_more old.going → IsHeld new flying kept
turns_on old new flying None held goes_on is = record { has = held.has ∙ sym (ap is_some is ∙ more_some old.going); keeps = record { finished = tt; one = tt } }
turns_on old new flying (Some r) held goes_on is = absurd (both_ways (is_over old.plan (Some (going_of r))) goes_on held.keeps.finished.over)

-- ---- enters

-- a version more makes no run and ends none
enter_some : (version : ℕ) (table : Table) (going : Option Going) → is_some (entered version table going) ≡ is_some going
enter_some version table None = refl
enter_some version table (Some g) = refl

-- a run that has ended wants no version
wants_by : (plan : PlanOf) (o : Option Flight) → flies_so (has_ended plan) o ≡ true → flies_so (may_enter plan) o ≡ false
wants_by plan None over = refl
wants_by plan (Some f) over = ap (λ (b : Bool). not b && at_entry f && not f.entered) over

wants_none : (plan : PlanOf) (g : Going) → is_over plan (Some g) ≡ true → wants plan (Some g) ≡ false
wants_none plan g over = wants_by plan (flight_in plan (Some g)) over

-- a run that wants a version is the arena's, and enters there
enters : (old new : ArenaOf) (flying : Bool) (kept : Option RecordOf) (version : ℕ) (table : Table) → IsHeld old flying kept
    → wants old.plan (going_in kept old.going) ≡ true → new.going ≡ entered version table old.going → IsHeld new flying kept
enters old new flying None version table held wanted is = record { has = held.has ∙ sym (ap is_some is ∙ enter_some version table old.going); keeps = record { finished = tt; one = tt } }
enters old new flying (Some r) version table held wanted is =
    absurd (both_ways (wants old.plan (Some (going_of r))) (wants_none old.plan (going_of r) held.keeps.finished.over) wanted)

-- by whether memory was refused
pub enters_by : {A E : Type 0} (result : Result A E) (old new : ArenaOf) (flying : Bool) (kept : Option RecordOf) (version : ℕ) (table : Table) → IsHeld old flying kept
    → wants old.plan (going_in kept old.going) ≡ true → OnOk result (new.going ≡ entered version table old.going) → OnErr result (new ≡ old) → IsHeld new flying kept
enters_by (Ok x) old new flying kept version table held wanted is same = enters old new flying kept version table held wanted is
enters_by (Err e) old new flying kept version table held wanted is same = subst (λ a. IsHeld a flying kept) (sym same) held

-- ---- what an instance shows of its arena's run

-- an instance without a run, and one whose run goes on or wants a version, keeps no record
pub none_kept : (kept : Option RecordOf) (going : Option Going) → going_in kept going ≡ None → kept ≡ None
none_kept None going is = refl
none_kept (Some r) going is = cc

pub going_kept : (arena : ArenaOf) (flying : Bool) (kept : Option RecordOf) → IsHeld arena flying kept → is_over arena.plan (going_in kept arena.going) ≡ false → kept ≡ None
going_kept arena flying None held goes_on = refl
going_kept arena flying (Some r) held goes_on = absurd (both_ways (is_over arena.plan (Some (going_of r))) goes_on held.keeps.finished.over)

pub wanting_kept : (arena : ArenaOf) (flying : Bool) (kept : Option RecordOf) → IsHeld arena flying kept → wants arena.plan (going_in kept arena.going) ≡ true → kept ≡ None
wanting_kept arena flying None held wanted = refl
wanting_kept arena flying (Some r) held wanted =
    absurd (both_ways (wants arena.plan (Some (going_of r))) (wants_none arena.plan (going_of r) held.keeps.finished.over) wanted)
