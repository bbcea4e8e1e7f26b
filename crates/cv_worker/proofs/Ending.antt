-- The end of a round, for one instance and for all.
use Rattle.std.proofs.Common.{◌≡◌, ◌≤◌, ◌<◌, ◌+◌, ℕ, zero, suc, Bool, true, false, List, [], ◌∷◌, length, Option, Some, None, refl, sym, ap, ◌∙◌, subst, arith}
use Rattle.std.specs.Prelude.{◌||◌, IsSomeAnd, slice_index_or}
use Rattle.std.specs.List.{AllByRecursion, list_any}
use Rattle.std.proofs.lemmas.Option.{same_Some}
use Rattle.cv_base.specs.PlanOf.{PlanOf}
use Rattle.cv_desk.specs.Openings.{SettingOf, opening_of}
use Rattle.cv_desk.specs.Passes.{IsOf, IsPastRuns, Sight}
use Rattle.cv_desk.specs.declared.making.Making.{Making}
use Rattle.cv_histories.specs.World.{numbers_of}
use Rattle.cv_rule.specs.Steps.{worker_of}
use Rattle.cv_rule.specs.declared.view.Opening.{Opening}
use Rattle.cv_rule.specs.declared.view.Row.{Row}
use Rattle.cv_worker.specs.Instances.{AreSeated, CanDraw, HasMetEnd, InstanceOf, IsOfSetting, IsPassDone, IsReady, IsSame}

-- ---- one instance

seated_same_in : (s : SettingOf) (o : Option Sight) → IsSomeAnd o (CanDraw s) → AreSeated IsSame o o
seated_same_in s None can = can
seated_same_in s (Some v) can = record { role = refl; opening = refl }

-- what is seated is the same
pub seated_same : (plan : PlanOf) (round : ℕ) (i : InstanceOf) → IsReady plan round i → AreSeated IsSame i.pass i.pass
seated_same plan round i ready = seated_same_in ready.setting i.pass ready.can_draw

pub same_then : (o p q : Option Sight) → AreSeated IsSame o p → AreSeated IsSame p q → AreSeated IsSame o q
same_then None p q a b = absurd a
same_then (Some u) None q a b = absurd a
same_then (Some u) (Some v) None a b = absurd b
same_then (Some u) (Some v) (Some w) a b = record { role = b.role ∙ a.role; opening = b.opening ∙ a.opening }

done_by : (s t : SettingOf) (v w : Sight) → IsOf s v → CanDraw t v → IsPastRuns v w → IsPassDone s w
done_by s t v w of can past =
    let one : opening_of past.setting ≡ opening_of s = same_Some (opening_of past.setting) (opening_of s) (sym past.of ∙ of) in
    let runs : length (numbers_of past.setting.plan past.setting.round) ≡ length (numbers_of s.plan s.round) = ap (λ (o : Opening Making). o.runs) one in
    let row : Row = record { worker = worker_of v.role; draw = past.draw; floor = v.floor } in
    let hand : w.hand ≡ row ∷ [] = ap (λ (x : Sight). x.hand) past.drawn_is ∙ ap (λ (h : List Row). row ∷ h) can.hand in
    record {
      done = record {
        of = ap (λ (x : Sight). x.known.opening) past.drawn_is ∙ of;
        idle = subst (λ (h : List Row). AllByRecursion (λ (r : Row). length (numbers_of s.plan s.round) ≤ r.draw) h) (sym hand) (omega (arith, runs, past.past), tt);
      };
      past = subst (λ (h : List Row). 0 < length h) (sym hand) (omega arith);
    }

met_end_in : (s t : SettingOf) (o p q : Option Sight) → IsSomeAnd o (IsOf s) → AreSeated IsSame o p → IsSomeAnd p (CanDraw t) → AreSeated IsPastRuns p q → IsSomeAnd q (IsPassDone s)
met_end_in s t None p q of same can past = absurd of
met_end_in s t (Some u) None q of same can past = absurd same
met_end_in s t (Some u) (Some v) None of same can past = absurd past
met_end_in s t (Some u) (Some v) (Some w) of same can past = done_by s t v w (same.opening ∙ of) can past

-- whose last draw met the end of the round, has met it
pub met_end : (plan : PlanOf) (round : ℕ) (s : SettingOf) (i j k : InstanceOf) → IsReady plan round j → AreSeated IsSame i.pass j.pass → AreSeated IsPastRuns j.pass k.pass → IsOfSetting s i → HasMetEnd s k
met_end plan round s i j k ready same past of = met_end_in s ready.setting i.pass j.pass k.pass of same ready.can_draw past

-- ---- all instances

met_first : (s : SettingOf) (i : InstanceOf) (b rest : Bool) → (b || rest) ≡ false → (b ≡ false → HasMetEnd s i) → HasMetEnd s i × (rest ≡ false)
met_first s i true rest none met = absurd cc
met_first s i false rest none met = (met refl, none)

-- where memory was refused to none, all have met it
pub all_met : (s : SettingOf) (is : List InstanceOf) → list_any (λ (i : InstanceOf). i.refused) is ≡ false → AllByRecursion (λ (i : InstanceOf). i.refused ≡ false → HasMetEnd s i) is → AllByRecursion (HasMetEnd s) is
all_met s [] none met = tt
all_met s (i ∷ is) none met =
    let first = met_first s i i.refused (list_any (λ (j : InstanceOf). j.refused) is) none met.0 in
    (first.0, all_met s is first.1 met.1)

-- what holds of each holds at each place
pub at_place : (P : InstanceOf → Type 0) (is : List InstanceOf) (k : ℕ) (d : InstanceOf) → AllByRecursion P is → k < length is → P (slice_index_or is k d)
at_place P [] k d all within = absurd (omega arith)
at_place P (i ∷ is) zero d all within = all.0
at_place P (i ∷ is) (suc k) d all within = at_place P is k d all.1 (omega arith)

-- what follows at each place
pub from_places : (P Q : InstanceOf → Type 0) (is js : List InstanceOf) → length js ≡ length is → ((k : ℕ) (d : InstanceOf) → k < length is → P (slice_index_or is k d) → Q (slice_index_or js k d)) → AllByRecursion P is → AllByRecursion Q js
from_places P Q [] [] same step all = tt
from_places P Q [] (j ∷ js) same step all = absurd (omega arith)
from_places P Q (i ∷ is) [] same step all = absurd (omega arith)
from_places P Q (i ∷ is) (j ∷ js) same step all =
    (step 0 i (omega arith) all.0, from_places P Q is js (omega arith) (λ k d within. step (suc k) d (omega arith)) all.1)
