-- A pass stays seated.
use Rattle.std.proofs.Common.{◌≡◌, ◌≤◌, ◌<◌, ◌+◌, ℕ, zero, suc, List, [], ◌∷◌, length, Some, None, Ok, Err, sym, ap, ◌∙◌, subst, arith}
use Rattle.std.specs.Prelude.{OnErr, Result, slice_get}
use Rattle.std.specs.List.{range_with_len}
use Rattle.std.proofs.lemmas.List.FromFn.{length-range_with_len}
use Rattle.std.proofs.lemmas.Option.{same_Some}
use Rattle.cv_desk.proofs.Telling.{prefix_get}
use Rattle.cv_desk.specs.Openings.{SettingOf, opening_of}
use Rattle.cv_desk.specs.Passes.{HasGrown, HasPosted, HasTicket, IsOf, IsOutcome, IsPastRuns, IsSeated, Sight, TicketOf}
use Rattle.cv_desk.specs.declared.making.Making.{Making}
use Rattle.cv_exec.specs.LiveRun.{Span}
use Rattle.cv_exec.specs.RecordOf.{RecordOf}
use Rattle.cv_histories.specs.World.{numbers_of}
use Rattle.cv_laws.specs.Each.{weaker}
use Rattle.cv_office.specs.Told.{IsPass}
use Rattle.cv_rule.specs.Steps.{drawn, entered, worker_of}
use Rattle.cv_rule.specs.declared.view.Opening.{Opening}
use Rattle.cv_rule.specs.declared.view.Role.{Role}
use Rattle.cv_rule.specs.declared.view.Row.{Row}

module _ (worker first count : ℕ) (p q : Sight) (is : IsSeated worker first count p) (pass : IsPass q) where
  -- who it is and what there was at the making stay
  pub seated_by : q.role ≡ p.role → q.on_its_way ≡ None → q.known.opening ≡ p.known.opening → IsSeated worker first count q
  seated_by role settled opening = record {
    pass = pass;
    role = role ∙ is.role;
    settled = settled;
    setting = is.setting;
    of = opening ∙ is.of;
    within = is.within;
    numbers = is.numbers;
    few = is.few;
  }

  pub seated_grown : HasGrown p q → IsSeated worker first count q
  seated_grown grown = seated_by grown.role (grown.on_its_way ∙ is.settled) grown.opening

  pub seated_posted : (draw : ℕ) → HasPosted draw p q → IsSeated worker first count q
  seated_posted draw posted = seated_by posted.role posted.on_its_way posted.opening

  pub seated_entered : (version : ℕ) → q ≡ entered p version → IsSeated worker first count q
  seated_entered version same = seated_by (ap (λ (v : Sight). v.role) same) (ap (λ (v : Sight). v.on_its_way) same ∙ is.settled) (ap (λ (v : Sight). v.known.opening) same)

  pub seated_drawn : (n : ℕ) → q ≡ drawn p n → IsSeated worker first count q
  seated_drawn n same = seated_by (ap (λ (v : Sight). v.role) same) (ap (λ (v : Sight). v.on_its_way) same ∙ is.settled) (ap (λ (v : Sight). v.known.opening) same)

-- its worker is the plan's
pub within_plan : (worker first count : ℕ) (p : Sight) → IsSeated worker first count p → (s : SettingOf) → IsOf s p → worker < s.plan.workers
within_plan worker first count p is s of =
    let same : is.setting.plan.workers ≡ s.plan.workers = ap (λ (o : Opening Making). o.workers) (same_Some (opening_of is.setting) (opening_of s) (sym is.of ∙ of)) in
    omega (arith, is.within)

-- a number of a range
range_at : (a n k : ℕ) → k < n → slice_get (range_with_len a n) k ≡ Some (a + k)
range_at a zero k within = absurd (omega arith)
range_at a (suc n) zero within = let same : a ≡ a + 0 = omega arith in ap (λ (x : ℕ). Some x) same
range_at a (suc n) (suc k) within = let same : a + 1 + k ≡ a + suc k = omega arith in range_at (a + 1) n k (omega arith) ∙ ap (λ (x : ℕ). Some x) same

-- a draw below the count is a run of the round, whose ticket the pass has
pub has_ticket : (worker first count : ℕ) (p q : Sight) (draw run : ℕ) → IsSeated worker first count p → p.hand ≡ [] → q ≡ drawn p draw → draw < count → run ≡ first + draw → HasTicket q (record { draw = draw; run = run })
has_ticket worker first count p q draw run is empty same within at =
    subst (λ (v : Sight). HasTicket v (record { draw = draw; run = run })) (sym same)
    (record {
      hand = ap (λ (h : List Row). record { worker = worker_of p.role; draw = draw; floor = p.floor } ∷ h) empty;
      setting = is.setting;
      of = is.of;
      run = ap (λ (l : List ℕ). slice_get l draw) is.numbers ∙ (range_at first count draw within ∙ ap (λ (x : ℕ). Some x) (sym at));
    })

-- a draw that is not below it is none
pub past_runs : (worker first count : ℕ) (p q : Sight) (draw : ℕ) → IsSeated worker first count p → q ≡ drawn p draw → count ≤ draw → IsPastRuns p q
past_runs worker first count p q draw is same past = record {
  draw = draw;
  drawn_is = same;
  setting = is.setting;
  of = is.of;
  past = omega (arith, ap (λ (l : List ℕ). length l) is.numbers, length-range_with_len first count);
}

-- ---- a post that was refused

has_again : (v w : Sight) (t : TicketOf) → HasGrown v w → HasTicket v t → HasTicket w t
has_again v w t grown has = record {
  hand =
      subst (λ (r : Role). w.hand ≡ record { worker = worker_of r; draw = t.draw; floor = w.floor } ∷ []) (sym grown.role)
      (subst (λ (n : ℕ). w.hand ≡ record { worker = worker_of v.role; draw = t.draw; floor = n } ∷ []) (sym grown.floor) (grown.hand ∙ has.hand));
  setting = has.setting;
  of = grown.opening ∙ has.of;
  run = has.run;
}

outcome_again : (v w : Sight) (t : TicketOf) (r : RecordOf) → HasGrown v w → IsOutcome v t r → IsOutcome w t r
outcome_again v w t r grown is = record {
  setting = is.setting;
  of = grown.opening ∙ is.of;
  plan = is.plan;
  run = is.run;
  worker = is.worker ∙ sym (ap (λ (o : Role). worker_of o) grown.role);
  loaded = is.loaded ∙ sym grown.loaded;
  tables = weaker (λ (x : Span). slice_get v.known.versions x.version ≡ Some x.table) (λ (x : Span). slice_get w.known.versions x.version ≡ Some x.table)
      (λ x at. prefix_get v.known.versions w.known.versions x.version x.table grown.versions at) r.adopted is.tables;
}

-- it can be tried again
pub may_post_again : {A E : Type 0} (o : Result A E) (v w : Sight) (t : TicketOf) (r : RecordOf) → HasTicket v t → IsOutcome v t r → OnErr o (HasGrown v w) → OnErr o (HasTicket w t × IsOutcome w t r)
may_post_again (Ok a) v w t r has is grown = tt
may_post_again (Err e) v w t r has is grown = (has_again v w t grown has, outcome_again v w t r grown is)
