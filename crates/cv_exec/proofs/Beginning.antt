-- A started run before its first turn.
use Rattle.std.proofs.Common.{◌≡◌, ◌<◌, ℕ, Bool, true, false, List, [], length, Option, Some, None, refl, sym, ap, ◌∙◌, arith}
use Rattle.std.specs.Prelude.{◌&&◌, ◌==◌, not, option_map}
use Rattle.std.proofs.lemmas.Bool.Decides.{nat_tests}
use Rattle.cv_base.specs.declared.plan.Mode.{Mode}
use Rattle.cv_base.specs.declared.plan.Mode.TheVariants.{Learn, Live}
use Rattle.cv_base.specs.PlanOf.{PlanOf}
use Rattle.cv_base.specs.Points.{Range}
use Rattle.cv_exec.specs.declared.flying.Flying.{Flying}
use Rattle.cv_exec.specs.declared.flying.Flying.TheVariants.{Nothing, Learning, Living}
use Rattle.cv_exec.specs.declared.patched.Patched.{Patched}
use Rattle.cv_exec.specs.ArenaOf.{flight_in, is_over}
use Rattle.cv_exec.specs.InFlightStands.{BeginsIn, BeginsLive, GoesOn, IsStarted, Keeps, Leaves, Marks, Stands, first_of, going_of}
use Rattle.cv_exec.specs.Keeping.{IsFresh, IsKept, range_of, wants_by}
use Rattle.cv_exec.specs.LiveRun.{Span, adoptions_of}
use Rattle.cv_exec.proofs.Recipe.{flown_first, next_none}
use Rattle.cv_exec.proofs.Standing.{flight_is, over}
use Rattle.cv_histories.specs.Flight.{begun, flown}
use Rattle.cv_histories.specs.Runs.{Run, run_at}
use Rattle.cv_machine.specs.Held.{Held, state_of}
use Rattle.cv_runs.specs.State.{start_state}

pub record Begun (plan : PlanOf) (m : Held) (number : ℕ) (flying : Flying) : Type 0 where
  pub stands : Stands plan m flying
  pub flight : flight_in plan (going_of flying) ≡ option_map (begun plan number) (run_at plan number)
  pub goes : is_over plan (going_of flying) ≡ false

module _ (plan : PlanOf) (m : Held) (number worker : ℕ) (low : worker < plan.workers) (some : 0 < plan.budget) (run : Run) (of_plan : run_at plan number ≡ Some run) (state : state_of m ≡ start_state plan.image run.input) where
  leaves_first : Leaves plan (begun plan number run)
  leaves_first = record { within = omega arith; state = refl; ends = λ over rest. refl }

  goes_first : GoesOn plan m (begun plan number run)
  goes_first =
      let more : (0 == plan.budget) ≡ false = grind (arith, nat_tests) in
      record { on = more; state = state }

  flown_none : flown plan [] (begun plan number run) 0 ≡ begun plan number run
  flown_none = flown_first plan [] (begun plan number run) ∙ next_none plan [] (begun plan number run) (omega arith)

  abbrev learn_first : run.mode ≡ Learn → IsStarted plan m None [] (first_of number worker)
  learn_first learns = record {
    run = run;
    flight = begun plan number run;
    of_plan = of_plan;
    worker = low;
    is = flown_none;
    number_is = refl;
    run_is = refl;
    used = refl;
    turns = refl;
    leaves = leaves_first;
    stands = goes_first;
    keeps = learns;
  }

  module _ (text : Range) (p : Patched) (ranged : text ≡ range_of plan.image) (fresh : IsFresh text p) where
    wants_first : wants_by p ≡ true
    wants_first = ap (λ (b : Bool). b && not p.entered) fresh.enters ∙ ap not fresh.entered

    marks_first : Marks (begun plan number run) p
    marks_first = record {
      enters = fresh.enters;
      rule = rw (fresh.rule, fresh.enters) refl;
      entered = fresh.entered;
      few = omega arith;
      room = record { tally = rw fresh.tally refl; fired = rw fresh.fired refl };
      ready = λ prepared. let unprepared = fresh.prepared in cc;
      prepared = λ still. cc;
      some = λ still. let clash : true ≡ false = sym wants_first ∙ still in cc;
    }

    kept_first : IsKept [] p
    kept_first = record {
      joined = rw fresh.spans tt;
      rises = rw fresh.spans tt;
      checks = rw fresh.tally (record { each = tt; all = refl });
      firings = rw fresh.fired (record { each = tt; all = refl });
    }

    abbrev live_first : run.mode ≡ Live → IsStarted plan m (Some p) p.spans.items (first_of number worker)
    live_first lives =
        let keeps : Keeps plan (begun plan number run) p None = record {
          lives = lives;
          text = fresh.text_is ∙ ranged;
          kept = kept_first;
          versions = rw fresh.spans refl;
          table = rw fresh.spans refl;
          marks = marks_first;
        } in
        record {
          run = run;
          flight = begun plan number run;
          of_plan = of_plan;
          worker = low;
          is = ap (λ (spans : List Span). flown plan (adoptions_of spans) (begun plan number run) 0) fresh.spans ∙ flown_none;
          number_is = refl;
          run_is = refl;
          used = ap (λ (spans : List Span). length (adoptions_of spans)) fresh.spans;
          turns = refl;
          leaves = leaves_first;
          stands = goes_first;
          keeps = keeps;
        }

  begun_learn : run.mode ≡ Learn → Begun plan m number (Learning (first_of number worker))
  begun_learn learns =
      let r = learn_first learns in
      record {
        stands = r;
        flight = flight_is plan m None [] (first_of number worker) r ∙ sym (ap (option_map (begun plan number)) of_plan);
        goes = over plan m None [] (first_of number worker) r;
      }

  begun_live : (text : Range) (flying : Flying) → text ≡ range_of plan.image → run.mode ≡ Live → BeginsLive text number worker flying → Begun plan m number flying
  begun_live text Nothing ranged lives begins = absurd begins
  begun_live text (Learning s) ranged lives begins = absurd begins
  begun_live text (Living s p) ranged lives begins =
      let r = live_first text p ranged begins.1 lives in
      rw begins.0 (record {
        stands = r;
        flight = flight_is plan m (Some p) p.spans.items (first_of number worker) r ∙ sym (ap (option_map (begun plan number)) of_plan);
        goes = over plan m (Some p) p.spans.items (first_of number worker) r;
      })

  begun_in : (mode : Mode) (text : Range) (flying : Flying) → text ≡ range_of plan.image → run.mode ≡ mode → BeginsIn text (Some mode) number worker flying → Begun plan m number flying
  begun_in Learn text flying ranged mode begins = rw begins (begun_learn mode)
  begun_in Live text flying ranged mode begins = begun_live text flying ranged mode begins

begun_with : (plan : PlanOf) (m : Held) (number worker : ℕ) (text : Range) (mode : Option Mode) (flying : Flying) (input : List ℕ) (o : Option Run) → worker < plan.workers → 0 < plan.budget → text ≡ range_of plan.image
    → run_at plan number ≡ o → mode ≡ option_map (λ (r : Run). r.mode) o → option_map (λ (r : Run). r.input) o ≡ Some input → state_of m ≡ start_state plan.image input → BeginsIn text mode number worker flying → Begun plan m number flying
begun_with plan m number worker text mode flying input None low some ranged of_plan modes inputs state begins = cc
begun_with plan m number worker text mode flying input (Some run) low some ranged of_plan modes inputs state begins =
    let same : input ≡ run.input = cc in
    begun_in plan m number worker low some run of_plan (state ∙ ap (start_state plan.image) same) run.mode text flying ranged refl (rw modes at begins)

-- before the first turn
pub begun_so : (plan : PlanOf) (m : Held) (number worker : ℕ) (text : Range) (mode : Option Mode) (flying : Flying) (input : List ℕ) → worker < plan.workers → 0 < plan.budget → text ≡ range_of plan.image
    → mode ≡ option_map (λ (r : Run). r.mode) (run_at plan number) → option_map (λ (r : Run). r.input) (run_at plan number) ≡ Some input → state_of m ≡ start_state plan.image input → BeginsIn text mode number worker flying → Begun plan m number flying
begun_so plan m number worker text mode flying input low some ranged modes inputs state begins =
    begun_with plan m number worker text mode flying input (run_at plan number) low some ranged refl modes inputs state begins
