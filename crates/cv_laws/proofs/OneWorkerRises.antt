-- Where worker 0 alone takes runs, those of a legal history rise, and those of a legal and whole
-- history are all runs in order.
use Rattle.std.proofs.Common.{◌≡◌, ◌≤◌, ◌<◌, ◌+◌, ◌-◌, ℕ, zero, suc, List, [], ◌∷◌, length, Some, refl, sym, ap, ◌∙◌, ⊎_elim, arith}
use Rattle.std.proofs.lemmas.Bool.{cases_lt}
use Rattle.std.proofs.lemmas.List.Elements.{Contains-append_cases}
use Rattle.std.proofs.lemmas.Option.{slice_get_within}
use Rattle.std.specs.Prelude.{◌≢◌}
use Rattle.std.specs.List.{AllByRecursion}
use Rattle.cv_base.specs.declared.entries.Entry.{Entry}
use Rattle.cv_base.specs.PlanOf.{PlanOf}
use Rattle.cv_histories.specs.Legal.{IsLegal, IsWhole, MayFollow, round_in, round_of}
use Rattle.cv_histories.specs.Runs.{Run, run_at, runs}
use Rattle.cv_laws.specs.InOrder.{AreBelow, AreByWorkerZero, HasEntry}
use Rattle.cv_laws.specs.Each.{of_one, weaker}
use Rattle.cv_laws.proofs.RunOrder.{earlier_below}
use Rattle.cv_laws.specs.Statements.{LegalIsOfPlan}

-- ---- runs rise

-- no entry is of a later round than a run that has no entry
none_beyond : (plan : PlanOf) (number : ℕ) (r : Run) → run_at plan number ≡ Some r → (past : List Entry) → IsLegal plan past → AllByRecursion (λ (o : Entry). o.run ≢ number) past → AllByRecursion (λ (o : Entry). round_of plan o ≤ r.round) past
none_beyond plan number r at [] legal fresh = tt
none_beyond plan number r at (o ∷ past) legal fresh = (
  ⊎_elim (λ earlier. let has = legal.0.rounds number r at earlier in absurd (of_one (λ (o : Entry). o.run ≢ number) past has.0 fresh.1 has.1 has.2))
      (λ low. low) (cases_lt r.round (round_of plan o)),
  none_beyond plan number r at past legal.1 fresh.1,
)

-- an entry that is not of a later round than the entry that follows it has a lower run
one_lower : (plan : PlanOf) (past before : List Entry) (e o : Entry) → o.worker ≡ e.worker → (follows : MayFollow plan past e) → MayFollow plan before o → round_of plan o ≤ follows.honest.run.round → (round_of plan o ≡ round_of plan e → o.worker ≡ e.worker → o.run < e.run)
    → o.run < e.run
one_lower plan past before e o same follows earlier low rises =
    let r = follows.honest.run in
    let s = earlier.honest.run in
    let round : round_of plan e ≡ r.round = ap round_in follows.honest.of_plan in
    let earlier_round : round_of plan o ≡ s.round = ap round_in earlier.honest.of_plan in
    ⊎_elim (λ less. earlier_below plan e.run o.run r s follows.honest.of_plan earlier.honest.of_plan less)
    (λ above. rises (omega arith) same) (cases_lt s.round r.round)

-- so has each entry before it
all_lower : (plan : PlanOf) (before : List Entry) (e : Entry) → e.worker ≡ 0 → (follows : MayFollow plan before e) → (past : List Entry) → AreByWorkerZero past → IsLegal plan past → AllByRecursion (λ (o : Entry). round_of plan o ≤ follows.honest.run.round) past
    → AllByRecursion (λ (o : Entry). round_of plan o ≡ round_of plan e → o.worker ≡ e.worker → o.run < e.run) past → AllByRecursion (λ (o : Entry). o.run < e.run) past
all_lower plan before e worker follows [] by legal low rises = tt
all_lower plan before e worker follows (o ∷ past) by legal low rises =
    (one_lower plan before past e o (by.0 ∙ sym worker) follows legal.0 low.0 rises.0, all_lower plan before e worker follows past by.1 legal.1 low.1 rises.1)

-- each entry has a higher run than all before it, the newest one first
abbrev Rise : List Entry → Type 0
Rise [] = Unit {0}
Rise (e ∷ past) = AllByRecursion (λ (o : Entry). o.run < e.run) past × Rise past

-- a legal history
legal_rise : (plan : PlanOf) (past : List Entry) → AreByWorkerZero past → IsLegal plan past → Rise past
legal_rise plan [] by legal = tt
legal_rise plan (e ∷ past) by legal =
    let follows = legal.0 in
    let low = none_beyond plan e.run follows.honest.run follows.honest.of_plan past legal.1 follows.fresh in
    (all_lower plan past e by.0 follows past by.1 legal.1 low follows.rises, legal_rise plan past by.1 legal.1)

-- ---- all runs in order

-- its runs are the plan's
pub legal_below : LegalIsOfPlan
legal_below plan [] legal = tt
legal_below plan (e ∷ past) legal = (slice_get_within (runs plan) e.run legal.0.honest.run legal.0.honest.of_plan, legal_below plan past legal.1)

-- the entry of a lower run than the newest entry's is before it
has_before : (number : ℕ) (e : Entry) (past : List Entry) → number < e.run → HasEntry number (e ∷ past) → HasEntry number past
has_before number e past lower has =
    let is = has.2 in
    ⊎_elim (λ first. let same : has.0 ≡ e = of_one (λ (o : Entry). o ≡ e) (e ∷ []) has.0 (refl, tt) first in let run = ap (λ (o : Entry). o.run) same in absurd (omega arith))
    (λ later. (has.0, later, is)) (Contains-append_cases (e ∷ []) past has.0 has.1)

-- the newest entry has the last of the runs
newest_is_last : (k : ℕ) (e : Entry) (past : List Entry) → Rise (e ∷ past) → e.run < k → HasEntry (k - 1) (e ∷ past) → k ≡ e.run + 1
newest_is_last k e past rise below has =
    let is = has.2 in
    let lower = weaker (λ (o : Entry). o.run < e.run) (λ (o : Entry). o.run ≤ e.run) (λ o less. omega arith) past rise.0 in
    let low : has.0.run ≤ e.run = of_one (λ (o : Entry). o.run ≤ e.run) (e ∷ past) has.0 (omega arith, lower) has.1 in
    omega arith

-- entries whose runs rise, below k, of which each lower number has one
are_below : (k : ℕ) (past : List Entry) → Rise past → AllByRecursion (λ (o : Entry). o.run < k) past → ((number : ℕ) → number < k → HasEntry number past) → AreBelow k past
are_below zero [] rise below has = refl
are_below (suc k) [] rise below has =
    let none = (has k (omega arith)).1.1 in
    absurd (omega arith)
are_below k (e ∷ past) rise below has =
    let less = below.0 in
    let count = newest_is_last k e past rise below.0 (has (k - 1) (omega arith)) in
    (count, are_below e.run past rise.1 rise.0 (λ number lower. has_before number e past lower (has number (omega arith))))

-- a legal and whole history has all runs in order
pub whole_in_order : (plan : PlanOf) (past : List Entry) → AreByWorkerZero past → IsLegal plan past → IsWhole plan past → AreBelow (length (runs plan)) past
whole_in_order plan past by legal whole = are_below (length (runs plan)) past (legal_rise plan past by legal) (legal_below plan past legal) whole
