-- A started run, and the run in flight that is shown of it.
use Rattle.std.proofs.Common.{◌≡◌, Bool, true, false, List, [], Option, Some, None, refl, sym, ap, ◌∙◌, subst}
use Rattle.std.specs.Prelude.{◌&&◌, not, is_some, option_map, IsSome}
use Rattle.cv_base.specs.declared.ends.End.{End}
use Rattle.cv_base.specs.declared.entries.Observation.{Observation}
use Rattle.cv_base.specs.declared.plan.Mode.{Mode}
use Rattle.cv_base.specs.declared.plan.Mode.TheVariants.{Learn, Live}
use Rattle.cv_base.specs.PlanOf.{PlanOf}
use Rattle.cv_exec.specs.declared.flying.Flying.{Flying}
use Rattle.cv_exec.specs.declared.flying.Flying.TheVariants.{Nothing, Learning, Living}
use Rattle.cv_exec.specs.declared.flying.Started.{Started}
use Rattle.cv_exec.specs.declared.patched.Patched.{Patched}
use Rattle.cv_exec.specs.ArenaOf.{Going, adopted_in, flies_so, flight_in, is_over, learns, seen_in, seen_so_far, wants}
use Rattle.cv_exec.specs.InFlightStands.{GoesOn, IsStarted, Keeps, Marks, Stands, StandsBy, adopted_by, going_of, going_with, has_run_ended, learns_by, wants_in}
use Rattle.cv_exec.specs.Keeping.{wants_by}
use Rattle.cv_exec.specs.LiveRun.{Span, adoptions_of}
use Rattle.cv_exec.proofs.Recipe.{and_false}
use Rattle.cv_histories.specs.Flight.{Flight, at_entry, begun, done_in, flown, has_ended, may_enter}
use Rattle.cv_histories.specs.Runs.{Run}
use Rattle.cv_histories.specs.Seen.{is_live}
use Rattle.cv_machine.specs.Held.{Held, state_of}
use Rattle.cv_runs.specs.BlockEntries.{is_entry}
use Rattle.cv_runs.specs.Learned.{observations}
use Rattle.cv_runs.specs.PatchedRun.{steps_of}

-- by how it has ended
over_by : (plan : PlanOf) (m : Held) (f : Flight) (end : Option End) → StandsBy plan m f end → has_ended plan f ≡ is_some end
over_by plan m f None stands = stands.on
over_by plan m f (Some end) stands = stands.over

-- a learn run never stands before a block entry
pub learn_no_entry : (plan : PlanOf) (f : Flight) → f.run.mode ≡ Learn → may_enter plan f ≡ false
learn_no_entry plan f learns =
    ap (λ (mode : Mode). not (has_ended plan f) && (is_live mode && is_entry f.since f.transferred) && not f.entered) learns
    ∙ ap (λ (b : Bool). b && not f.entered) (and_false (not (has_ended plan f)))

-- a live run that goes on may enter where it wants to
pub live_entry_is : (plan : PlanOf) (f : Flight) (p : Patched) → f.run.mode ≡ Live → has_ended plan f ≡ false → Marks f p → may_enter plan f ≡ wants_by p
live_entry_is plan f p lives on marks =
    ap (λ (mode : Mode). not (has_ended plan f) && (is_live mode && is_entry f.since f.transferred) && not f.entered) lives
    ∙ ap (λ (b : Bool). not b && is_entry f.since f.transferred && not f.entered) on
    ∙ ap (λ (b : Bool). b && not f.entered) (sym marks.enters)
    ∙ ap (λ (b : Bool). p.enters && not b) (sym marks.entered)

ended_no_entry : (plan : PlanOf) (f : Flight) → has_ended plan f ≡ true → may_enter plan f ≡ false
ended_no_entry plan f over = ap (λ (b : Bool). not b && at_entry f && not f.entered) over

module _ (plan : PlanOf) (m : Held) (patched : Option Patched) (spans : List Span) (g : Started) (r : IsStarted plan m patched spans g) where
  -- the run in flight
  pub flight_is : flight_in plan (Some (going_with g spans)) ≡ Some r.flight
  flight_is = ap (option_map (λ (run : Run). flown plan (adoptions_of spans) (begun plan g.run run) g.turns)) r.of_plan ∙ ap Some r.is

  -- whether it has ended
  pub over : is_over plan (Some (going_with g spans)) ≡ is_some g.end
  over = ap (flies_so (has_ended plan)) flight_is ∙ over_by plan m r.flight g.end r.stands

  pub wants_is : wants plan (Some (going_with g spans)) ≡ may_enter plan r.flight
  wants_is = ap (flies_so (may_enter plan)) flight_is

-- whether a live run wants a block entry
live_wants : (plan : PlanOf) (m : Held) (f : Flight) (p : Patched) (end : Option End) → StandsBy plan m f end → Keeps plan f p end → may_enter plan f ≡ (not (is_some end) && wants_by p)
live_wants plan m f p None stands keeps = live_entry_is plan f p keeps.lives stands.on keeps.marks
live_wants plan m f p (Some end) stands keeps = ended_no_entry plan f stands.over

module _ (plan : PlanOf) (m : Held) where
  pub over_in : (flying : Flying) → Stands plan m flying → is_over plan (going_of flying) ≡ has_run_ended flying
  over_in Nothing stands = refl
  over_in (Learning g) stands = over plan m None [] g stands
  over_in (Living g p) stands = over plan m (Some p) p.spans.items g stands

  pub wants_entry_in : (flying : Flying) → Stands plan m flying → wants plan (going_of flying) ≡ wants_in flying
  wants_entry_in Nothing stands = refl
  wants_entry_in (Learning g) stands = wants_is plan m None [] g stands ∙ learn_no_entry plan stands.flight stands.keeps
  wants_entry_in (Living g p) stands =
      wants_is plan m (Some p) p.spans.items g stands ∙ live_wants plan m stands.flight p g.end stands.stands stands.keeps

-- whether it is a learn run
abbrev learning : Flight → Bool
learning f = not (is_live f.run.mode)

pub learns_in : (plan : PlanOf) (m : Held) (flying : Flying) → Stands plan m flying → learns plan (going_of flying) ≡ learns_by flying
learns_in plan m Nothing stands = refl
learns_in plan m (Learning g) stands = ap (flies_so learning) (flight_is plan m None [] g stands) ∙ ap (λ (mode : Mode). not (is_live mode)) stands.keeps
learns_in plan m (Living g p) stands = ap (flies_so learning) (flight_is plan m (Some p) p.spans.items g stands) ∙ ap (λ (mode : Mode). not (is_live mode)) stands.keeps.lives

-- a run that goes on has no end
none_by : (end : Option End) → is_some end ≡ false → end ≡ None
none_by None is = refl
none_by (Some end) is = cc

pub ends_none : (plan : PlanOf) (m : Held) (patched : Option Patched) (spans : List Span) (g : Started) → IsStarted plan m patched spans g → is_over plan (Some (going_with g spans)) ≡ false → g.end ≡ None
ends_none plan m patched spans g r is = none_by g.end (sym (over plan m patched spans g r) ∙ is)

-- and stands in the state of its machine
abbrev IsAt : PlanOf → Held → Option Going → Type 0
IsAt plan m going = option_map (λ (f : Flight). f.state) (flight_in plan going) ≡ Some (state_of m)

state_is : (plan : PlanOf) (m : Held) (patched : Option Patched) (spans : List Span) (g : Started) → IsStarted plan m patched spans g → is_over plan (Some (going_with g spans)) ≡ false → IsAt plan m (Some (going_with g spans))
state_is plan m patched spans g r is =
    let goes : GoesOn plan m r.flight = subst (StandsBy plan m r.flight) (ends_none plan m patched spans g r is) r.stands in
    ap (option_map (λ (f : Flight). f.state)) (flight_is plan m patched spans g r) ∙ ap Some (sym goes.state)

pub state_in : (plan : PlanOf) (m : Held) (flying : Flying) → Stands plan m flying → is_over plan (going_of flying) ≡ false → IsSome (going_of flying) → IsAt plan m (going_of flying)
state_in plan m Nothing stands is some = cc
state_in plan m (Learning g) stands is some = state_is plan m None [] g stands is
state_in plan m (Living g p) stands is some = state_is plan m (Some p) p.spans.items g stands is

-- and a live one that wants no block entry keeps none open
pub stays : (plan : PlanOf) (m : Held) (g : Started) (p : Patched) → IsStarted plan m (Some p) p.spans.items g → g.end ≡ None → wants plan (Some (going_with g p.spans.items)) ≡ false → wants_by p ≡ false
stays plan m g p r none is =
    ap (λ (end : Option End). not (is_some end) && wants_by p) (sym none) ∙ sym (wants_entry_in plan m (Living g p) r) ∙ is

-- what it has adopted, as it shows it
pub adopted_is : (flying : Flying) → adopted_in (going_of flying) ≡ adopted_by flying
adopted_is Nothing = refl
adopted_is (Learning g) = refl
adopted_is (Living g p) = refl

-- ---- what is seen of a run that has begun

abbrev seen_by : Bool → Flight → List Observation
seen_by live f = elim live [ true ↦ [] | false ↦ observations (steps_of (done_in f)) ]

pub learn_seen : (plan : PlanOf) (m : Held) (g : Started) (r : IsStarted plan m None [] g) → seen_so_far plan (Some (going_with g [])) ≡ observations (steps_of (done_in r.flight))
learn_seen plan m g r = ap seen_in (flight_is plan m None [] g r) ∙ ap (λ (mode : Mode). seen_by (is_live mode) r.flight) r.keeps

pub live_unseen : (plan : PlanOf) (m : Held) (spans : List Span) (g : Started) (p : Patched) → IsStarted plan m (Some p) spans g → seen_so_far plan (Some (going_with g spans)) ≡ []
live_unseen plan m spans g p r = ap seen_in (flight_is plan m (Some p) spans g r) ∙ ap (λ (mode : Mode). seen_by (is_live mode) r.flight) r.keeps.lives
