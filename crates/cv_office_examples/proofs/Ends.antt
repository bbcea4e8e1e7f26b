-- The begin and the end of a round.
use Rattle.std.proofs.Common.{◌≡◌, ◌≤◌, ◌+◌, ℕ, true, List, [], ◌∷◌, length, refl, sym, ap, ◌∙◌, subst, arith}
use Rattle.std.specs.Prelude.{nat_lt}
use Rattle.std.specs.List.{AllByRecursion}
use Rattle.std.proofs.lemmas.Bool.Decides.{nat_tests}
use Rattle.cv_base.specs.PlanOf.{PlanOf}
use Rattle.cv_desk.specs.Openings.{IsUpTo, SettingOf}
use Rattle.cv_desk.specs.Passes.{AreDone, AreNew, IsDone, IsNew, Sight}
use Rattle.cv_desk.specs.Standing.{IsClosed}
use Rattle.cv_histories.specs.World.{numbers_of}
use Rattle.cv_manager.specs.ManagerOf.{ManagerOf}
use Rattle.cv_office_examples.specs.Taking.{AreEnded, AreTwo, CanDraw, HasMetEnd, IsReady, IsSameOffice}
use Rattle.cv_rule.specs.declared.view.Row.{Row}

-- ---- the begin

pub none_up_to : (plan : PlanOf) → IsUpTo plan 0 []
none_up_to plan = record { all = λ number run at below. absurd (omega arith); no_others = tt }

pub plan_stays : (s : SettingOf) (b : ManagerOf) (p : PlanOf) → IsClosed s b → s.plan ≡ p → b.plan ≡ p
plan_stays s b p closed of = closed.plan ∙ of

-- one round more
pub up_to_next : (s : SettingOf) (b : ManagerOf) (round : ℕ) → IsClosed s b → s.round ≡ round → IsUpTo b.plan (round + 1) b.past
up_to_next s b round closed at =
    subst (λ (n : ℕ). IsUpTo b.plan (n + 1) b.past) at (subst (λ (p : PlanOf). IsUpTo p (s.round + 1) b.past) (sym closed.plan) closed.up_to)

new_can_draw : (s : SettingOf) (worker : ℕ) (v : Sight) → IsNew s worker v → CanDraw s v
new_can_draw s worker v new = record { of = new.of; hand = new.waiting.0; loaded = new.loaded }

pub are_two : (s : SettingOf) (passes : List Sight) (v w : Sight) → AreNew s 0 passes → length passes ≡ s.plan.workers → passes ≡ v ∷ w ∷ [] → AreTwo s v w
are_two s passes v w new count are =
    let each : AreNew s 0 (v ∷ w ∷ []) = subst (λ (l : List Sight). AreNew s 0 l) are new in
    record {
      workers = sym count ∙ ap (λ (l : List Sight). length l) are;
      first = new_can_draw s 0 v each.0;
      second = new_can_draw s 1 w each.1.0;
    }

pub two_ready : (s : SettingOf) (plan : PlanOf) (v w : Sight) → s.plan ≡ plan → AreTwo s v w → IsReady plan v × IsReady plan w
two_ready s plan v w of two = (record { setting = s; of_plan = of; can_draw = two.first }, record { setting = s; of_plan = of; can_draw = two.second })

-- ---- a pass stays of its office

pub draws_still : (s : SettingOf) (plan : PlanOf) (v w : Sight) → CanDraw s v → IsSameOffice v w → IsReady plan w → CanDraw s w
draws_still s plan v w can same ready = record { of = same ∙ can.of; hand = ready.can_draw.hand; loaded = ready.can_draw.loaded }

-- ---- the end

pub are_ended : (s : SettingOf) (plan : PlanOf) (v w x y z : Sight) → AreTwo s v w → IsSameOffice v x → IsReady plan x → (CanDraw s x → HasMetEnd s y) → IsSameOffice w z → IsReady plan z → AreEnded s y z
are_ended s plan v w x y z two first ready met second idle = record {
  workers = two.workers;
  first = met (draws_still s plan v x two.first first ready);
  second = draws_still s plan w z two.second second idle;
}

pub all_done : (s : SettingOf) (v w : Sight) (passes : List Sight) → AreEnded s v w → passes ≡ v ∷ w ∷ [] → AreDone s passes
all_done s v w passes ended are =
    let idle : IsDone s w = record { of = ended.second.of; idle = subst (λ (h : List Row). AllByRecursion (λ (r : Row). length (numbers_of s.plan s.round) ≤ r.draw) h) (sym ended.second.hand) tt } in
    let first : nat_lt 0 (length v.hand) ≡ true = grind (arith, nat_tests, ended.first.past) in
    subst (λ (l : List Sight). AreDone s l) (sym are)
    (record { all = sym ended.workers; each = (ended.first.done, (idle, tt)); past = rw first refl })
