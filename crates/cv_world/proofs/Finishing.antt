-- The record of a run that has ended says which run it was, and its summary what was seen in all of it.
use Rattle.std.proofs.Common.{◌≡◌, true, Option, Some, Ok, Err, Result, sym, subst}
use Rattle.std.specs.Prelude.{IfOk}
use Rattle.cv_base.specs.PlanOf.{PlanOf}
use Rattle.cv_exec.specs.ArenaOf.{ArenaOf, Going, entry_of_going, is_over}
use Rattle.cv_exec.specs.RecordOf.{RecordOf}
use Rattle.cv_histories.specs.Runs.{run_at}
use Rattle.cv_histories.specs.Seen.{is_observed, observed_of}
use Rattle.cv_observe.specs.StandsFor.{StandsFor, SummaryOf}
use Rattle.cv_world.specs.InstanceOf.{IsFinished, going_of}

-- the summary of the run is that of the record's
finished : (plan : PlanOf) (going : Option Going) (summary : SummaryOf) (r : RecordOf) → is_over plan going ≡ true → entry_of_going plan going ≡ Some r.entry → going ≡ Some (going_of r) → (is_observed r.entry ≡ true → StandsFor summary (observed_of plan (run_at plan r.entry.run))) → IsFinished plan summary r
finished plan going summary r over entry same seen = record {
  over = subst (λ g. is_over plan g ≡ true) same over;
  entry = subst (λ g. entry_of_going plan g ≡ Some r.entry) same entry;
  observed = seen;
}

-- by whether memory was refused
pub finished_by : {E : Type 0} (result : Result RecordOf E) (old new : ArenaOf) → is_over old.plan old.going ≡ true
    → IfOk result (λ (r : RecordOf). entry_of_going old.plan old.going ≡ Some r.entry) → IfOk result (λ (r : RecordOf). old.going ≡ Some (going_of r))
    → IfOk result (λ (r : RecordOf). is_observed r.entry ≡ true → StandsFor new.summary (observed_of old.plan (run_at old.plan r.entry.run))) → new.plan ≡ old.plan → IfOk result (λ (r : RecordOf). IsFinished new.plan new.summary r)
finished_by (Ok r) old new over entry same seen kept =
    subst (λ p. IsFinished p new.summary r) (sym kept) (finished old.plan old.going new.summary r over entry same seen)
finished_by (Err e) old new over entry same seen kept = tt
