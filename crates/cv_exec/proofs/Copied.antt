-- A copy of a run in flight stands where it stands.
use Rattle.std.proofs.Common.{◌≡◌, List, [], Some, None, Option, refl, sym, ap, ◌∙◌, subst}
use Rattle.cv_base.specs.declared.ends.End.{End}
use Rattle.cv_base.specs.PlanOf.{PlanOf}
use Rattle.cv_base.specs.Points.{Range}
use Rattle.cv_exec.specs.declared.flying.Flying.{Flying}
use Rattle.cv_exec.specs.declared.flying.Flying.TheVariants.{Nothing, Learning, Living}
use Rattle.cv_exec.specs.declared.flying.Started.{Started}
use Rattle.cv_exec.specs.declared.patched.Patched.{Patched}
use Rattle.cv_exec.specs.InFlightStands.{IsInFlight, IsSame, IsStarted, Keeps, Marks, MarksBy, Stands, going_of, going_with}
use Rattle.cv_exec.specs.Keeping.{IsCopy, IsKept, IsReady}
use Rattle.cv_exec.specs.LiveRun.{Span}
use Rattle.cv_histories.specs.Flight.{Flight, done_in}
use Rattle.cv_machine.specs.Held.{Held}
use Rattle.cv_runs.specs.PatchedRun.{PatchedStep}

module _ (p q : Patched) (same : q.spans.items ≡ p.spans.items) where
  -- all but the spans, which are other ones with the same items
  abbrev copy : Patched
  copy = record p { spans = q.spans }

  ready : IsReady p → IsReady copy
  ready is = record { index = rw same is.index; tally = rw same is.tally; fired = rw same is.fired }

  kept : (done : List PatchedStep) → IsKept done p → IsKept done copy
  kept done is = record { joined = rw same is.joined; rises = rw same is.rises; checks = is.checks; firings = is.firings }

  marks : (f : Flight) (end : Option End) → MarksBy f p end → MarksBy f copy end
  marks f None is = record {
    enters = is.enters;
    rule = is.rule;
    entered = is.entered;
    few = is.few;
    room = record { tally = is.room.tally; fired = is.room.fired };
    ready = λ prepared. ready (is.ready prepared);
    prepared = is.prepared;
    some = λ still. rw same (is.some still);
  }
  marks f (Some end) is = tt

  keeps : (plan : PlanOf) (f : Flight) (end : Option End) → Keeps plan f p end → Keeps plan f copy end
  keeps plan f end is = record {
    lives = is.lives;
    text = is.text;
    kept = kept (done_in f) is.kept;
    versions = rw same is.versions;
    table = rw same is.table;
    marks = marks f end is.marks;
  }

  started : (plan : PlanOf) (m : Held) (s : Started) → IsStarted plan m (Some p) p.spans.items s → IsStarted plan m (Some copy) p.spans.items s
  started plan m s is = record {
    run = is.run;
    flight = is.flight;
    of_plan = is.of_plan;
    worker = is.worker;
    is = is.is;
    number_is = is.number_is;
    run_is = is.run_is;
    used = is.used;
    turns = is.turns;
    leaves = is.leaves;
    stands = is.stands;
    keeps = keeps plan is.flight s.end is.keeps;
  }

living : (plan : PlanOf) (m : Held) (s : Started) (p q : Patched) → IsCopy p q → IsStarted plan m (Some p) p.spans.items s → IsStarted plan m (Some q) q.spans.items s
living plan m s p q is stands =
    subst (λ (x : Patched). IsStarted plan m (Some x) q.spans.items s) (sym is.rest)
    (subst (λ (l : List Span). IsStarted plan m (Some (record p { spans = q.spans })) l s) (sym is.spans) (started p q is.spans plan m s stands))

pub stands_copied : (plan : PlanOf) (m : Held) (a b : Flying) → IsSame a b → Stands plan m a → Stands plan m b
stands_copied plan m Nothing Nothing same stands = tt
stands_copied plan m Nothing (Learning t) same stands = absurd same
stands_copied plan m Nothing (Living t q) same stands = absurd same
stands_copied plan m (Learning s) Nothing same stands = absurd same
stands_copied plan m (Learning s) (Learning t) same stands = subst (λ (x : Started). IsStarted plan m None [] x) (sym same) stands
stands_copied plan m (Learning s) (Living t q) same stands = absurd same
stands_copied plan m (Living s p) Nothing same stands = absurd same
stands_copied plan m (Living s p) (Learning t) same stands = absurd same
stands_copied plan m (Living s p) (Living t q) same stands =
    subst (λ (x : Started). IsStarted plan m (Some q) q.spans.items x) (sym same.0) (living plan m s p q same.1 stands)

pub in_flight_copied : (plan : PlanOf) (m : Held) (range : Range) (a b : Flying) → IsSame a b → IsInFlight plan m range a → IsInFlight plan m range b
in_flight_copied plan m range a b same is = record { image = is.image; point = is.point; ranged = is.ranged; run = stands_copied plan m a b same is.run }

pub going_copied : (a b : Flying) → IsSame a b → going_of b ≡ going_of a
going_copied Nothing Nothing same = refl
going_copied Nothing (Learning t) same = absurd same
going_copied Nothing (Living t q) same = absurd same
going_copied (Learning s) Nothing same = absurd same
going_copied (Learning s) (Learning t) same = ap (λ (x : Started). Some (going_with x [])) same
going_copied (Learning s) (Living t q) same = absurd same
going_copied (Living s p) Nothing same = absurd same
going_copied (Living s p) (Learning t) same = absurd same
going_copied (Living s p) (Living t q) same =
    ap (λ (x : Started). Some (going_with x q.spans.items)) same.0 ∙ ap (λ (l : List Span). Some (going_with s l)) same.1.spans
