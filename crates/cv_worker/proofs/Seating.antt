-- Passes are seated in instances, and taken out again.
use Rattle.std.proofs.Common.{◌≡◌, ◌≤◌, ◌<◌, ◌+◌, ℕ, zero, suc, List, [], ◌∷◌, ◌++◌, length, map, Option, Some, None, true, refl, sym, ap, ◌∙◌, subst, append-nil, arith}
use Rattle.std.specs.Prelude.{IfOk, IsSomeAnd, Ok, Result, drop, nat_lt, option_to_list, slice_index_or, take}
use Rattle.std.specs.List.{AllByRecursion, cons_option, filter_map, list_any}
use Rattle.std.proofs.lemmas.List.{length-map, map-append}
use Rattle.std.proofs.lemmas.List.Elements.{filter_map-append}
use Rattle.std.proofs.lemmas.Bool.Decides.{nat_tests}
use Rattle.cv_base.specs.declared.memory.NoMemory.{NoMemory}
use Rattle.cv_base.specs.PlanOf.{PlanOf}
use Rattle.cv_desk.specs.Openings.{SettingOf}
use Rattle.cv_desk.specs.Passes.{AreDone, AreNew, IsDone, IsNew, IsOf, Sight}
use Rattle.cv_worker.specs.Instances.{CanDraw, HasMetEnd, InstanceOf, IsOfSetting, IsPassDone, IsReady}
use Rattle.cv_worker.specs.Seats.{AreAllOf, AreOf, AreSeatedIn, IsInstanceOf, IsStart}

-- ---- seated

-- one more was made
pub one_made : (made : List (Result InstanceOf NoMemory)) (instances : List InstanceOf) (i : InstanceOf) → AreAllOf made instances → AreAllOf (made ++ Ok i ∷ []) (instances ++ i ∷ [])
one_made made instances i are = ap (λ (l : List (Result InstanceOf NoMemory)). l ++ Ok i ∷ []) are ∙ sym (map-append (λ (j : InstanceOf). Ok j) instances (i ∷ []))

pub none_made : AreAllOf [] []
none_made = refl

-- instances that were made, each for the pass at its place
made_for : (plan : PlanOf) (passes : List Sight) (instances : List InstanceOf) → length instances ≡ length passes
    → ((k : ℕ) (d : Result InstanceOf NoMemory) (v : Sight) → k < length passes → IfOk (slice_index_or (map (λ (i : InstanceOf). Ok i) instances) k d) (IsInstanceOf plan (slice_index_or passes k v)))
    → AreOf plan passes instances
made_for plan [] [] same each = record { plans = refl; seated = refl }
made_for plan [] (i ∷ instances) same each = absurd (omega arith)
made_for plan (v ∷ passes) [] same each = absurd (omega arith)
made_for plan (v ∷ passes) (i ∷ instances) same each =
    let first : IsInstanceOf plan v i = each 0 (Ok i) v (omega arith) in
    let rest = made_for plan passes instances (omega arith) (λ k d w below. each (suc k) d w (omega arith)) in
    record {
      plans = ap (λ (p : PlanOf). p ∷ map (λ (j : InstanceOf). j.plan) instances) first.of_plan ∙ ap (λ (l : List PlanOf). plan ∷ l) rest.plans;
      seated = ap (λ (o : Option Sight). o ∷ map (λ (j : InstanceOf). j.pass) instances) first.seated ∙ ap (λ (l : List (Option Sight)). Some v ∷ l) rest.seated;
    }

pub all_made_for : (plan : PlanOf) (passes : List Sight) (made : List (Result InstanceOf NoMemory)) (instances : List InstanceOf) → length made ≡ length passes
    → ((k : ℕ) (d : Result InstanceOf NoMemory) (v : Sight) → k < length passes → IfOk (slice_index_or made k d) (IsInstanceOf plan (slice_index_or passes k v)))
    → AreAllOf made instances
    → AreOf plan passes instances
all_made_for plan passes made instances same each are =
    made_for plan passes instances (sym (length-map instances (λ (i : InstanceOf). Ok i)) ∙ (ap (λ (l : List (Result InstanceOf NoMemory)). length l) (sym are) ∙ same))
    (λ k d v below. subst (λ (l : List (Result InstanceOf NoMemory)). IfOk (slice_index_or l k d) (IsInstanceOf plan (slice_index_or passes k v))) are (each k d v below))

-- two lists that begin alike
first_same : {X : Type 0} (x y : X) (xs ys : List X) → x ∷ xs ≡ y ∷ ys → (x ≡ y) × (xs ≡ ys)
first_same x y xs ys same = (cc, cc)

can_draw : (s : SettingOf) (worker : ℕ) (v : Sight) → IsNew s worker v → CanDraw s v
can_draw s worker v new = record { of = new.of; hand = new.waiting.0; loaded = new.loaded }

-- each can draw
module _ (s : SettingOf) (plan : PlanOf) (round : ℕ) (of_plan : s.plan ≡ plan) (of_round : s.round ≡ round) where
  ready_from : (worker : ℕ) (vs : List Sight) (is : List InstanceOf) → AreNew s worker vs → map (λ (i : InstanceOf). i.plan) is ≡ map (λ (v : Sight). plan) vs → AreSeatedIn is vs → AllByRecursion (IsReady plan round) is
  ready_from worker [] [] new plans seated = tt
  ready_from worker [] (i ∷ is) new plans seated = absurd cc
  ready_from worker (v ∷ vs) [] new plans seated = absurd cc
  ready_from worker (v ∷ vs) (i ∷ is) new plans seated =
      let p = first_same i.plan plan (map (λ (j : InstanceOf). j.plan) is) (map (λ (x : Sight). plan) vs) plans in
      let q = first_same i.pass (Some v) (map (λ (j : InstanceOf). j.pass) is) (map (λ (x : Sight). Some x) vs) seated in (
        record {
          arena = p.0;
          setting = s;
          of_plan = of_plan;
          of_round = of_round;
          can_draw = subst (λ (o : Option Sight). IsSomeAnd o (CanDraw s)) (sym q.0) (can_draw s worker v new.0);
        },
        ready_from (worker + 1) vs is new.1 p.1 q.1,
      )

  of_setting_from : (worker : ℕ) (vs : List Sight) (is : List InstanceOf) → AreNew s worker vs → AreSeatedIn is vs → AllByRecursion (IsOfSetting s) is
  of_setting_from worker [] [] new seated = tt
  of_setting_from worker [] (i ∷ is) new seated = absurd cc
  of_setting_from worker (v ∷ vs) [] new seated = absurd cc
  of_setting_from worker (v ∷ vs) (i ∷ is) new seated =
      let q = first_same i.pass (Some v) (map (λ (j : InstanceOf). j.pass) is) (map (λ (x : Sight). Some x) vs) seated in
      (subst (λ (o : Option Sight). IsSomeAnd o (IsOf s)) (sym q.0) new.0.of, of_setting_from (worker + 1) vs is new.1 q.1)

pub all_ready : (s : SettingOf) (plan : PlanOf) (round : ℕ) (vs : List Sight) (is : List InstanceOf) → IsStart s plan round vs → AreOf plan vs is → AllByRecursion (IsReady plan round) is
all_ready s plan round vs is start are = ready_from s plan round start.of_plan start.of_round 0 vs is start.new are.plans are.seated

pub all_of_setting : (s : SettingOf) (plan : PlanOf) (round : ℕ) (vs : List Sight) (is : List InstanceOf) → IsStart s plan round vs → AreOf plan vs is → AllByRecursion (IsOfSetting s) is
all_of_setting s plan round vs is start are = of_setting_from s plan round start.of_plan start.of_round 0 vs is start.new are.seated

same_length : (vs : List Sight) (is : List InstanceOf) → AreSeatedIn is vs → length is ≡ length vs
same_length [] [] seated = refl
same_length [] (i ∷ is) seated = absurd cc
same_length (v ∷ vs) [] seated = absurd cc
same_length (v ∷ vs) (i ∷ is) seated =
    let q = first_same i.pass (Some v) (map (λ (j : InstanceOf). j.pass) is) (map (λ (x : Sight). Some x) vs) seated in
    ap suc (same_length vs is q.1)

-- ---- taken out

as_list : (o : Option Sight) → cons_option o [] ≡ option_to_list o
as_list None = refl
as_list (Some v) = refl

pub one_out : (is : List InstanceOf) (vs : List Sight) (i : InstanceOf) → vs ≡ filter_map (λ (j : InstanceOf). j.pass) is → vs ++ option_to_list i.pass ≡ filter_map (λ (j : InstanceOf). j.pass) (is ++ i ∷ [])
one_out is vs i so_far =
    ap (λ (l : List Sight). l ++ option_to_list i.pass) so_far
    ∙ (ap (λ (l : List Sight). filter_map (λ (j : InstanceOf). j.pass) is ++ l) (sym (as_list i.pass)) ∙ sym (filter_map-append (λ (j : InstanceOf). j.pass) is (i ∷ [])))

-- ---- a list that was changed in place

all_take : (P : InstanceOf → Type 0) (n : ℕ) (is : List InstanceOf) → AllByRecursion P is → AllByRecursion P (take n is)
all_take P zero is all = tt
all_take P (suc n) [] all = tt
all_take P (suc n) (i ∷ is) all = (all.0, all_take P n is all.1)

drop_all : (is js : List InstanceOf) → length is ≡ length js → drop (length is) js ≡ []
drop_all [] [] same = refl
drop_all [] (j ∷ js) same = absurd (omega arith)
drop_all (i ∷ is) [] same = absurd (omega arith)
drop_all (i ∷ is) (j ∷ js) same = drop_all is js (omega arith)

pub all_back : (P : InstanceOf → Type 0) (n : ℕ) (is js : List InstanceOf) → length is ≡ length js → AllByRecursion P is → AllByRecursion P (take n (is ++ drop (length is) js))
all_back P n is js same all =
    subst (λ (l : List InstanceOf). AllByRecursion P (take n (is ++ l))) (sym (drop_all is js same))
    (subst (λ (l : List InstanceOf). AllByRecursion P (take n l)) (sym (append-nil is)) (all_take P n is all))

-- ---- all are done

there : (s : SettingOf) (o : Option Sight) → IsSomeAnd o (IsPassDone s) → (v : Sight) × (o ≡ Some v) × IsPassDone s v
there s None met = absurd met
there s (Some v) met = (v, refl, met)

done_in : (s : SettingOf) (is : List InstanceOf) → AllByRecursion (HasMetEnd s) is → (length (filter_map (λ (j : InstanceOf). j.pass) is) ≡ length is) × AllByRecursion (IsDone s) (filter_map (λ (j : InstanceOf). j.pass) is)
done_in s [] met = (refl, tt)
done_in s (i ∷ is) met =
    let v = there s i.pass met.0 in
    let rest = done_in s is met.1 in
    let same : filter_map (λ (j : InstanceOf). j.pass) (i ∷ is) ≡ v.0 ∷ filter_map (λ (j : InstanceOf). j.pass) is = ap (λ (o : Option Sight). cons_option o (filter_map (λ (j : InstanceOf). j.pass) is)) v.1 in
    (ap (λ (l : List Sight). length l) same ∙ ap suc rest.0, subst (λ (l : List Sight). AllByRecursion (IsDone s) l) (sym same) (v.2.done, rest.1))

past_in : (s : SettingOf) (is : List InstanceOf) → AllByRecursion (HasMetEnd s) is → 0 < length is → list_any (λ (v : Sight). nat_lt 0 (length v.hand)) (filter_map (λ (j : InstanceOf). j.pass) is) ≡ true
past_in s [] met some = absurd (omega arith)
past_in s (i ∷ is) met some =
    let v = there s i.pass met.0 in
    let same : filter_map (λ (j : InstanceOf). j.pass) (i ∷ is) ≡ v.0 ∷ filter_map (λ (j : InstanceOf). j.pass) is = ap (λ (o : Option Sight). cons_option o (filter_map (λ (j : InstanceOf). j.pass) is)) v.1 in
    let first : nat_lt 0 (length v.0.hand) ≡ true = grind (arith, nat_tests, v.2.past) in
    subst (λ (l : List Sight). list_any (λ (x : Sight). nat_lt 0 (length x.hand)) l ≡ true) (sym same) (rw first refl)

pub all_done : (s : SettingOf) (plan : PlanOf) (round : ℕ) (vs : List Sight) (is js : List InstanceOf) (ws : List Sight) → IsStart s plan round vs → 1 ≤ plan.workers → AreOf plan vs is → length js ≡ length is → AllByRecursion (HasMetEnd s) js → ws ≡ filter_map (λ (j : InstanceOf). j.pass) js → AreDone s ws
all_done s plan round vs is js ws start some are same met out =
    let n : length js ≡ s.plan.workers = same ∙ (same_length vs is are.seated ∙ start.all) in
    let workers : s.plan.workers ≡ plan.workers = ap (λ (p : PlanOf). p.workers) start.of_plan in
    let done = done_in s js met in
    subst (λ (l : List Sight). AreDone s l) (sym out)
    (record { all = done.0 ∙ n; each = done.1; past = past_in s js met (omega (arith, n, workers, some)) })
