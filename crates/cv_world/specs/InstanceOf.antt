-- What an instance stands for: its plan, and the run that it has, which may have its record already.
use Rattle.std.specs.Prelude.{◌≡◌, Bool, true, Option, Some, None, is_some, not, ◌&&◌, IfSome}
use Rattle.cv_base.specs.PlanOf.{PlanOf}
use Rattle.cv_exec.specs.ArenaOf.{ArenaOf, Going, entry_of_going, is_over, wants}
use Rattle.cv_exec.specs.RecordOf.{RecordOf}
use Rattle.cv_histories.specs.Runs.{run_at}
use Rattle.cv_histories.specs.Seen.{is_observed, observed_of}
use Rattle.cv_observe.specs.StandsFor.{StandsFor, SummaryOf}

pub record InstanceOf : Type 0 where
  pub plan : PlanOf
  pub going : Option Going

-- the run of a record, and the run of an instance that keeps one or has none
abbrev pub going_of : RecordOf → Going
going_of r = record { run = r.entry.run; worker = r.entry.worker; turns = r.entry.turns; adopted = r.adopted }

abbrev pub going_in : Option RecordOf → Option Going → Option Going
going_in None going = going
going_in (Some r) going = Some (going_of r)

-- the record is that of its run, which has ended, and the summary is of it where it is learned from
pub record IsFinished (plan : PlanOf) (summary : SummaryOf) (r : RecordOf) : Type 0 where
  pub over : is_over plan (Some (going_of r)) ≡ true
  pub entry : entry_of_going plan (Some (going_of r)) ≡ Some r.entry
  pub observed : is_observed r.entry ≡ true → StandsFor summary (observed_of plan (run_at plan r.entry.run))

-- a record is kept only where no run goes on in the arena
pub record IsKept (arena : ArenaOf) (kept : Option RecordOf) : Type 0 where
  pub finished : IfSome kept (IsFinished arena.plan arena.summary)
  pub one : IfSome kept (λ r. arena.going ≡ None)

-- the instance has a run where the arena has one or a record is kept
pub record IsHeld (arena : ArenaOf) (flying : Bool) (kept : Option RecordOf) : Type 0 where
  pub has : flying ≡ is_some (going_in kept arena.going)
  pub keeps : IsKept arena kept

-- it has a run that has not ended and wants no version before its next turn
abbrev pub may_turn_in : PlanOf → Option Going → Bool
may_turn_in plan going = is_some going && not (is_over plan going) && not (wants plan going)
