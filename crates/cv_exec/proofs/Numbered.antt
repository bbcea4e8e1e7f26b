-- A run that is told by its number: what is known of it at its end.
use Rattle.std.proofs.Common.{◌≡◌, ℕ, true, false, List, [], Option, Some, None, Result, Ok, Err, refl, sym, ap, ◌∙◌, subst}
use Rattle.std.specs.Prelude.{IsSomeAnd, IfOk, OnOk, option_map}
use Rattle.std.proofs.lemmas.Option.{same_Some}
use Rattle.cv_base.specs.declared.entries.Entry.{Entry}
use Rattle.cv_base.specs.declared.plan.Mode.TheVariants.{Learn, Live}
use Rattle.cv_base.specs.PlanOf.{PlanOf}
use Rattle.cv_exec.specs.ArenaOf.{Going, entry_of_going, flies_so, flight_in, is_over, wants}
use Rattle.cv_exec.specs.LearnRun.{IsLearnRun, entry_by, entry_with, learn_steps, steps_with}
use Rattle.cv_exec.specs.LiveRun.{IsLiveRun, Span, adoptions_of}
use Rattle.cv_exec.specs.RecordOf.{RecordOf}
use Rattle.cv_exec.proofs.Standing.{learn_no_entry}
use Rattle.cv_histories.specs.Flight.{begun, flight_entry, flown, has_ended, may_enter}
use Rattle.cv_histories.specs.Runs.{Run, run_at}
use Rattle.cv_histories.specs.Seen.{is_live, observed_of}
use Rattle.cv_laws.specs.Statements.{FlownIsOf, FlownIsPlain}
use Rattle.cv_observe.specs.StandsFor.{StandsFor, SummaryOf}
use Rattle.cv_runs.specs.Learned.{observations}

abbrev going_so : ℕ → ℕ → ℕ → List Span → Going
going_so number worker turns spans = record { run = number; worker = worker; turns = turns; adopted = spans }

-- the run in flight of a run that the plan has
there : (plan : PlanOf) (number worker turns : ℕ) (spans : List Span) (run : Run) → run_at plan number ≡ Some run → flight_in plan (Some (going_so number worker turns spans)) ≡ Some (flown plan (adoptions_of spans) (begun plan number run) turns)
there plan number worker turns spans run at = ap (option_map (λ (run : Run). flown plan (adoptions_of spans) (begun plan number run) turns)) at

-- ---- learn runs

waits_by : FlownIsOf → (plan : PlanOf) (number worker turns : ℕ) (o : Option Run) → run_at plan number ≡ o → IsSomeAnd o (λ (run : Run). run.mode ≡ Learn) → wants plan (Some (going_so number worker turns [])) ≡ false
waits_by law plan number worker turns None at learns = absurd learns
waits_by law plan number worker turns (Some run) at learns =
    ap (flies_so (may_enter plan)) (there plan number worker turns [] run at)
    ∙ learn_no_entry plan (flown plan [] (begun plan number run) turns) (ap (λ (r : Run). r.mode) (law plan [] number run turns).1 ∙ learns)

-- it never wants a version
pub learn_waits : FlownIsOf → (plan : PlanOf) (number worker turns : ℕ) → IsLearnRun plan number → wants plan (Some (record { run = number; worker = worker; turns = turns; adopted = [] })) ≡ false
learn_waits law plan number worker turns learns = waits_by law plan number worker turns (run_at plan number) refl learns

entry_by_run : FlownIsPlain → (plan : PlanOf) (number worker turns : ℕ) (e : Entry) (o : Option Run) → run_at plan number ≡ o → IsSomeAnd o (λ (run : Run). run.mode ≡ Learn) → is_over plan (Some (going_so number worker turns [])) ≡ true
    → entry_of_going plan (Some (going_so number worker turns [])) ≡ Some e → option_map (entry_with plan number worker) o ≡ Some e
entry_by_run law plan number worker turns e None at learns over is = absurd learns
entry_by_run law plan number worker turns e (Some run) at learns over is =
    let ended : has_ended plan (flown plan [] (begun plan number run) turns) ≡ true = sym (ap (flies_so (has_ended plan)) (there plan number worker turns [] run at)) ∙ over in
    ap Some (sym (law plan number worker run turns learns ended).1)
    ∙ sym (ap (option_map (flight_entry plan worker)) (there plan number worker turns [] run at))
    ∙ is

-- its entry at its end
pub learn_entry_by : FlownIsPlain → (plan : PlanOf) (number worker turns : ℕ) (e : Entry) → IsLearnRun plan number → is_over plan (Some (record { run = number; worker = worker; turns = turns; adopted = [] })) ≡ true
    → entry_of_going plan (Some (record { run = number; worker = worker; turns = turns; adopted = [] })) ≡ Some e → entry_by plan number worker ≡ Some e
learn_entry_by law plan number worker turns e learns over is = entry_by_run law plan number worker turns e (run_at plan number) refl learns over is

seen_with : (plan : PlanOf) (number worker : ℕ) (e : Entry) (summary : SummaryOf) (o : Option Run) → run_at plan number ≡ o → option_map (entry_with plan number worker) o ≡ Some e
    → (is_live e.mode ≡ false → StandsFor summary (observed_of plan (run_at plan e.run))) → StandsFor summary (observations (steps_with plan o))
seen_with plan number worker e summary None at is seen = cc
seen_with plan number worker e summary (Some run) at is seen =
    let same : entry_with plan number worker run ≡ e = same_Some (entry_with plan number worker run) e is in
    let of : run_at plan e.run ≡ Some run = ap (λ (e : Entry). run_at plan e.run) (sym same) ∙ at in
    subst (λ (o : Option Run). StandsFor summary (observed_of plan o)) of (seen (ap (λ (e : Entry). is_live e.mode) (sym same)))

-- what was seen in it, where the summary is of the run of its entry
pub learn_seen_by : {E : Type 0} (result : Result RecordOf E) (plan : PlanOf) (number worker : ℕ) (summary : SummaryOf) → IfOk result (λ (r : RecordOf). entry_by plan number worker ≡ Some r.entry)
    → IfOk result (λ (r : RecordOf). is_live r.entry.mode ≡ false → StandsFor summary (observed_of plan (run_at plan r.entry.run))) → OnOk result (StandsFor summary (observations (learn_steps plan number)))
learn_seen_by (Ok r) plan number worker summary is seen = seen_with plan number worker r.entry summary (run_at plan number) refl is seen
learn_seen_by (Err e) plan number worker summary is seen = tt

-- ---- live runs

pub record IsOfRun (plan : PlanOf) (number worker : ℕ) (e : Entry) : Type 0 where
  pub run : e.run ≡ number
  pub by : e.worker ≡ worker
  pub mode : e.mode ≡ Live

of_by : FlownIsOf → (plan : PlanOf) (number worker turns : ℕ) (spans : List Span) (e : Entry) (o : Option Run) → run_at plan number ≡ o → IsSomeAnd o (λ (run : Run). run.mode ≡ Live) → entry_of_going plan (Some (going_so number worker turns spans)) ≡ Some e → IsOfRun plan number worker e
of_by law plan number worker turns spans e None at lives is = absurd lives
of_by law plan number worker turns spans e (Some run) at lives is =
    let f = flown plan (adoptions_of spans) (begun plan number run) turns in
    let of = law plan (adoptions_of spans) number run turns in
    let same : flight_entry plan worker f ≡ e = same_Some (flight_entry plan worker f) e (sym (ap (option_map (flight_entry plan worker)) (there plan number worker turns spans run at)) ∙ is) in
    record {
      run = ap (λ (e : Entry). e.run) (sym same) ∙ of.0;
      by = ap (λ (e : Entry). e.worker) (sym same);
      mode = ap (λ (e : Entry). e.mode) (sym same) ∙ ap (λ (r : Run). r.mode) of.1 ∙ lives;
    }

-- the entry of a live run is of its run
pub live_of : FlownIsOf → (plan : PlanOf) (number worker turns : ℕ) (spans : List Span) (e : Entry) → IsLiveRun plan number → entry_of_going plan (Some (record { run = number; worker = worker; turns = turns; adopted = spans })) ≡ Some e → IsOfRun plan number worker e
live_of law plan number worker turns spans e lives is = of_by law plan number worker turns spans e (run_at plan number) refl lives is
