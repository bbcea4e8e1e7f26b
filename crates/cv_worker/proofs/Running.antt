-- A run that was drawn is run and posted.
use Rattle.std.proofs.Common.{◌≡◌, ℕ, zero, suc, List, [], ◌∷◌, ◌++◌, Option, Some, None, Ok, Err, refl, sym, ap, ◌∙◌, subst, arith}
use Rattle.std.specs.Prelude.{IfOk, IsSomeAnd, option_map, slice_get}
use Rattle.std.specs.List.{AllByRecursion}
use Rattle.std.proofs.lemmas.Option.{same_Some}
use mathlib.Core.List.{IsPrefix}
use Rattle.std.specs.Prelude.{Result}
use Rattle.cv_base.specs.declared.plan.Mode.{Mode}
use Rattle.cv_base.specs.PlanOf.{PlanOf}
use Rattle.cv_desk.specs.Openings.{SettingOf, opening_of}
use Rattle.cv_desk.specs.Passes.{HasPosted, HasTicket, IsOf, IsOfWorker, IsOutcome, Kept, Sight, TicketOf, kept_of}
use Rattle.cv_desk.specs.declared.making.Making.{Making}
use Rattle.cv_exec.specs.LiveRun.{HaveTables, Span}
use Rattle.cv_exec.specs.RecordOf.{IsHonestUnder, RecordOf}
use Rattle.cv_histories.specs.Honest.{IsHonest}
use Rattle.cv_histories.specs.Rows.{written}
use Rattle.cv_histories.specs.Runs.{Run, run_at}
use Rattle.cv_histories.specs.World.{numbers_of}
use Rattle.cv_laws.specs.RoundStatements.{NumbersAreOfRound}
use Rattle.cv_rule.specs.Steps.{drawn, worker_of}
use Rattle.cv_rule.specs.declared.view.Opening.{Opening}
use Rattle.cv_rule.specs.declared.view.Post.{Post}
use Rattle.cv_rule.specs.declared.view.Role.{Role}
use Rattle.cv_runs.specs.PatchedRun.{Table}
use Rattle.cv_worker.specs.Instances.{AreSeated, CanDraw, HasPostedRun, HasRun, HasTaken, InstanceOf, IsReady}
use Rattle.cv_worker.specs.Running.{MayRun}

-- ---- before the run

-- what a ready instance drew it may run
pub may_run : (plan : PlanOf) (round : ℕ) (i : InstanceOf) (v w : Sight) (t : TicketOf) → IsReady plan round i → i.pass ≡ Some v → w ≡ drawn v t.draw → HasTicket w t → MayRun plan round w t
may_run plan round i v w t ready at same ticket =
    let can : CanDraw ready.setting v = subst (λ (o : Option Sight). IsSomeAnd o (CanDraw ready.setting)) at ready.can_draw in
    let of : IsOf ready.setting w = ap (λ (x : Sight). x.known.opening) same ∙ can.of in
    let one : opening_of ticket.setting ≡ opening_of ready.setting = same_Some (opening_of ticket.setting) (opening_of ready.setting) (sym ticket.of ∙ of) in
    record {
      ticket = ticket;
      of_plan = ap (λ (o : Opening Making). o.making.plan) one ∙ ready.of_plan;
      of_round = ap (λ (o : Opening Making). o.making.round) one ∙ ready.of_round;
      loaded = ap (λ (x : Sight). x.loaded) same ∙ can.loaded;
    }

-- its run is one of the plan
has_run : NumbersAreOfRound → (plan : PlanOf) (round : ℕ) (v : Sight) (t : TicketOf) → MayRun plan round v t → (run : Run) × (run_at plan t.run ≡ Some run)
has_run numbers_are plan round v t may =
    let of = numbers_are may.ticket.setting.plan may.ticket.setting.round t.draw t.run may.ticket.run in
    (of.run, subst (λ (p : PlanOf). run_at p t.run ≡ Some of.run) may.of_plan of.of_plan)

pub has_mode : NumbersAreOfRound → (plan : PlanOf) (round : ℕ) (v : Sight) (t : TicketOf) (run : ℕ) (mode : Option Mode) → MayRun plan round v t → run ≡ t.run → mode ≡ option_map (λ (r : Run). r.mode) (run_at plan run) → mode ≡ None → ⊥
has_mode numbers_are plan round v t run mode may of is none =
    let got = has_run numbers_are plan round v t may in
    let at : run_at plan run ≡ Some got.0 = ap (run_at plan) of ∙ got.1 in
    let some : option_map (λ (r : Run). r.mode) (run_at plan run) ≡ Some got.0.mode = ap (λ (o : Option Run). option_map (λ (r : Run). r.mode) o) at in
    cc

-- ---- the end of a live run

pub live_outcome : (plan : PlanOf) (round : ℕ) (v w : Sight) (t : TicketOf) (r : RecordOf) (worker : ℕ) → MayRun plan round v t → IsOfWorker worker v → kept_of w ≡ kept_of v
    → r.plan ≡ plan → r.entry.run ≡ t.run → r.entry.worker ≡ worker → HaveTables w.known.versions r.adopted → w.loaded ≡ written r.entry.adopted → IsOutcome w t r
live_outcome plan round v w t r worker may by kept plan_is run_is worker_is tables loaded = record {
  setting = may.ticket.setting;
  of = ap (λ (k : Kept). k.opening) kept ∙ may.ticket.of;
  plan = plan_is ∙ sym may.of_plan;
  run = run_is;
  worker = worker_is ∙ sym (ap (λ (o : Role). worker_of o) (ap (λ (k : Kept). k.role) kept ∙ by));
  loaded = sym loaded;
  tables = tables;
}

pub live_ended : {E : Type 0} (o : Result RecordOf E) (plan : PlanOf) (round : ℕ) (v s a w : Sight) (t : TicketOf) (worker run : ℕ) → MayRun plan round v t → IsOfWorker worker v → run ≡ t.run → s ≡ v → w ≡ a
    → kept_of a ≡ kept_of s
    → IfOk o (λ r. r.plan ≡ plan) → IfOk o (λ r. r.entry.run ≡ run) → IfOk o (λ r. r.entry.worker ≡ worker)
    → IfOk o (λ r. HaveTables a.known.versions r.adopted)
    → IfOk o (λ r. (before : List ℕ) → s.loaded ≡ before → a.loaded ≡ before ++ written r.entry.adopted)
    → IfOk o (λ r. IsOutcome w t r)
live_ended (Ok r) plan round v s a w t worker run may by of from to kept plan_is run_is worker_is tables loaded =
    let none : s.loaded ≡ [] = ap (λ (x : Sight). x.loaded) from ∙ may.loaded in
    subst (λ (x : Sight). IsOutcome x t r) (sym to)
    (live_outcome plan round v a t r worker may by (kept ∙ ap kept_of from) plan_is (run_is ∙ of) worker_is tables (loaded [] none))
live_ended (Err e) plan round v s a w t worker run may by of from to kept plan_is run_is worker_is tables loaded = tt

-- ---- the post

-- what stands in a list stands in a longer one
get_more : {X : Type 0} (xs more : List X) (k : ℕ) (x : X) → slice_get xs k ≡ Some x → slice_get (xs ++ more) k ≡ Some x
get_more [] more k x at = cc
get_more (y ∷ xs) more zero x at = at
get_more (y ∷ xs) more (suc k) x at = get_more xs more k x at

have_more : (xs more : List Table) (spans : List Span) → HaveTables xs spans → HaveTables (xs ++ more) spans
have_more xs more [] have = tt
have_more xs more (s ∷ spans) have = (get_more xs more s.version s.table have.0, have_more xs more spans have.1)

-- the entry is honest under what the pass knows after the post
pub honest_after : (v w : Sight) (t : TicketOf) (r : RecordOf) (draw : ℕ) → IsHonestUnder r.plan r.adopted r.entry → IsOutcome v t r → HasPosted draw v w → IsHonest r.plan w.known.versions r.entry
honest_after v w t r draw honest outcome posted =
    honest w.known.versions (subst (λ (l : List Table). HaveTables l r.adopted) posted.versions.1 (have_more v.known.versions posted.versions.0 r.adopted outcome.tables))

-- ---- after the post

pub has_taken : (plan : PlanOf) (round : ℕ) (i j : InstanceOf) (v u w : Sight) (t : TicketOf) → IsReady plan round i → i.pass ≡ Some v → u ≡ drawn v t.draw → HasPostedRun plan round t u w
    → j.plan ≡ plan → j.pass ≡ Some w → HasTaken plan round i j
has_taken plan round i j v u w t ready was same posted plan_is is =
    let can : CanDraw ready.setting v = subst (λ (o : Option Sight). IsSomeAnd o (CanDraw ready.setting)) was ready.can_draw in
    let here : HasPostedRun plan round t (drawn v t.draw) w = subst (λ (x : Sight). HasPostedRun plan round t x w) same posted in
    let opening : w.known.opening ≡ v.known.opening = here.posted.opening ∙ ap (λ (k : Kept). k.opening) here.kept in
    let draws : CanDraw ready.setting w = record { of = opening ∙ can.of; hand = here.posted.hand; loaded = here.posted.loaded } in
    let ran : HasRun plan round v w = record {
      ticket = t;
      posted = here;
      posts = here.posted.posts ∙ (ap (λ (l : List Post). l ++ record { draw = t.draw; loaded = here.ran.loaded } ∷ []) (ap (λ (k : Kept). k.posts) here.kept)
          ∙ ap (λ (l : List ℕ). v.posts ++ record { draw = t.draw; loaded = l } ∷ []) here.loaded);
    } in
    record {
      ready = record {
        arena = plan_is;
        setting = ready.setting;
        of_plan = ready.of_plan;
        of_round = ready.of_round;
        can_draw = subst (λ (o : Option Sight). IsSomeAnd o (CanDraw ready.setting)) (sym is) draws;
      };
      ran = subst (λ (o : Option Sight). AreSeated (HasRun plan round) i.pass o) (sym is) (subst (λ (o : Option Sight). AreSeated (HasRun plan round) o (Some w)) (sym was) ran);
    }
