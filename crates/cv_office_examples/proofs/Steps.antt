-- A pass draws a run, and has the record of one that was run whole.
use Rattle.std.proofs.Common.{◌≡◌, ℕ, true, List, [], ◌∷◌, ◌++◌, sym, ap, ◌∙◌, subst}
use Rattle.std.proofs.lemmas.Option.{same_Some}
use Rattle.cv_base.specs.PlanOf.{PlanOf}
use Rattle.cv_desk.specs.Openings.{SettingOf, opening_of}
use Rattle.cv_desk.specs.Passes.{HasTicket, IsOf, IsOfWorker, IsOutcome, Kept, Sight, TicketOf, kept_of}
use Rattle.cv_desk.specs.declared.making.Making.{Making}
use Rattle.cv_exec.specs.ArenaOf.{ArenaOf}
use Rattle.cv_exec.specs.LiveRun.{HaveTables}
use Rattle.cv_exec.specs.RecordOf.{RecordOf}
use Rattle.cv_histories.specs.Rows.{written}
use Rattle.cv_histories.specs.Runs.{run_at}
use Rattle.cv_histories.specs.Seen.{is_observed, observed_of}
use Rattle.cv_observe.specs.StandsFor.{StandsFor}
use Rattle.cv_office_examples.specs.Taking.{HasDrawn, IsReady, IsSameOffice, MayPost, MayRun}
use Rattle.cv_rule.specs.Steps.{drawn, worker_of}
use Rattle.cv_rule.specs.declared.view.Opening.{Opening}
use Rattle.cv_rule.specs.declared.view.Role.{Role}

-- ---- a draw

one_setting : (s t : SettingOf) (v : Sight) → IsOf s v → IsOf t v → opening_of s ≡ opening_of t
one_setting s t v a b = same_Some (opening_of s) (opening_of t) (sym a ∙ b)

pub may_run : (plan : PlanOf) (v w : Sight) (t : TicketOf) → IsReady plan v → w ≡ drawn v t.draw → HasTicket w t → MayRun plan w t
may_run plan v w t ready same ticket =
    let of : IsOf ready.setting w = ap (λ (x : Sight). x.known.opening) same ∙ ready.can_draw.of in
    let one = one_setting ticket.setting ready.setting w ticket.of of in
    record {
      drawn = record { ticket = ticket; of_plan = ap (λ (o : Opening Making). o.making.plan) one ∙ ready.of_plan };
      loaded = ap (λ (x : Sight). x.loaded) same ∙ ready.can_draw.loaded;
    }

-- ---- a pass that has the same ticket

pub ticket_stays : (v w : Sight) (t : TicketOf) → HasTicket v t → w.role ≡ v.role → w.hand ≡ v.hand → w.floor ≡ v.floor → IsSameOffice v w → HasTicket w t
ticket_stays v w t has role hand floor opening = record {
  hand =
      subst (λ (r : Role). w.hand ≡ record { worker = worker_of r; draw = t.draw; floor = w.floor } ∷ []) (sym role)
      (subst (λ (n : ℕ). w.hand ≡ record { worker = worker_of v.role; draw = t.draw; floor = n } ∷ []) (sym floor) (hand ∙ has.hand));
  setting = has.setting;
  of = opening ∙ has.of;
  run = has.run;
}

pub drawn_stays : (plan : PlanOf) (v w : Sight) (t : TicketOf) → HasDrawn plan v t → w.role ≡ v.role → w.hand ≡ v.hand → w.floor ≡ v.floor → IsSameOffice v w → HasDrawn plan w t
unfolding ticket_stays
drawn_stays plan v w t has role hand floor opening = record { ticket = ticket_stays v w t has.ticket role hand floor opening; of_plan = has.of_plan }

-- ---- a run that was run whole

pub outcome_of : (plan : PlanOf) (v w : Sight) (t : TicketOf) (r : RecordOf) (worker : ℕ) → HasDrawn plan v t → IsOfWorker worker v → kept_of w ≡ kept_of v
    → r.plan ≡ plan → r.entry.run ≡ t.run → r.entry.worker ≡ worker → HaveTables w.known.versions r.adopted → w.loaded ≡ written r.entry.adopted → IsOutcome w t r
outcome_of plan v w t r worker has by kept plan_is run_is worker_is tables loaded = record {
  setting = has.ticket.setting;
  of = ap (λ (k : Kept). k.opening) kept ∙ has.ticket.of;
  plan = plan_is ∙ sym has.of_plan;
  run = run_is;
  worker = worker_is ∙ sym (ap (λ (o : Role). worker_of o) (ap (λ (k : Kept). k.role) kept ∙ by));
  loaded = sym loaded;
  tables = tables;
}

pub ticket_kept : (v w : Sight) (t : TicketOf) → HasTicket v t → kept_of w ≡ kept_of v → HasTicket w t
ticket_kept v w t has kept =
    ticket_stays v w t has (ap (λ (k : Kept). k.role) kept) (ap (λ (k : Kept). k.hand) kept) (ap (λ (k : Kept). k.floor) kept) (ap (λ (k : Kept). k.opening) kept)

pub live_may_post : (plan : PlanOf) (v s b w : Sight) (t : TicketOf) (r : RecordOf) (a : ArenaOf) (worker run : ℕ) → MayRun plan v t → IsOfWorker worker v → run ≡ t.run → s ≡ v → w ≡ b → kept_of b ≡ kept_of s
    → r.plan ≡ plan → r.entry.run ≡ run → r.entry.worker ≡ worker → HaveTables b.known.versions r.adopted → ((before : List ℕ) → s.loaded ≡ before → b.loaded ≡ before ++ written r.entry.adopted)
    → a.plan ≡ plan → (is_observed r.entry ≡ true → StandsFor a.summary (observed_of plan (run_at plan r.entry.run))) → MayPost w t r a
live_may_post plan v s b w t r a worker run may by of from to kept plan_is run_is worker_is tables loaded arena seen =
    let same : kept_of b ≡ kept_of v = kept ∙ ap (λ (x : Sight). kept_of x) from in
    let none : s.loaded ≡ [] = ap (λ (x : Sight). x.loaded) from ∙ may.loaded in
    subst (λ (x : Sight). MayPost x t r a) (sym to)
    (record {
      ticket = ticket_kept v b t may.drawn.ticket same;
      outcome = outcome_of plan v b t r worker may.drawn by same plan_is (run_is ∙ of) worker_is tables (loaded [] none);
      of_plan = plan_is ∙ sym arena;
      seen = λ is. subst (λ (p : PlanOf). StandsFor a.summary (observed_of p (run_at p r.entry.run))) (sym plan_is) (seen is);
    })
