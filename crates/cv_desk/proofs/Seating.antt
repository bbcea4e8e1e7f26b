-- Passes are made one after another.
use Rattle.std.proofs.Common.{◌≡◌, ◌≤◌, ◌<◌, ◌+◌, ℕ, suc, List, [], ◌∷◌, ◌++◌, length, refl, sym, ap, ◌∙◌, subst, arith}
use Rattle.std.specs.Prelude.{◌-◌, reverse}
use Rattle.std.specs.List.{range_with_len}
use Rattle.cv_desk.specs.Openings.{IsSetting, SettingOf, opening_of, versions_of, workers_of}
use Rattle.cv_desk.specs.Passes.{AreNew, IsNew, IsSeated, Sight}
use Rattle.cv_desk.specs.Standing.{GoesOn, IsDesk, IsSeating}
use Rattle.cv_desk.specs.declared.making.Making.{Making}
use Rattle.cv_histories.specs.World.{numbers_of}
use Rattle.cv_manager.specs.ManagerOf.{ManagerOf}
use Rattle.cv_office.specs.Told.{IsMaster, IsPass}
use Rattle.cv_rule.specs.Steps.{first_of, master_at_start, new_pass, others_of, seating}
use Rattle.cv_rule.specs.declared.view.Known.{Known}
use Rattle.cv_rule.specs.declared.view.Role.TheVariants.{Pass}
use Rattle.cv_runs.specs.PatchedRun.{Table}

pub none_seated : (s : SettingOf) → IsSeating s 0 (master_at_start (opening_of s) (versions_of s) (workers_of s))
none_seated s = record { role = refl; hand = refl; known = refl; absent = ap (λ (n : ℕ). range_with_len 0 n) (omega arith) }

module _ (s : SettingOf) (worker : ℕ) (v : Sight) (is : IsSeating s worker v) (within : worker < s.plan.workers) where
  one_left : v.absent ≡ worker ∷ range_with_len (worker + 1) (s.plan.workers - (worker + 1))
  one_left =
      let more : s.plan.workers - worker ≡ suc (s.plan.workers - (worker + 1)) = omega arith in
      is.absent ∙ ap (λ (n : ℕ). range_with_len worker n) more

  pub some_absent : 0 < length v.absent
  some_absent = subst (λ (l : List ℕ). 0 < length l) (sym one_left) (omega arith)

  pub master_is : IsMaster v
  master_is = record { role = is.role; hand = is.hand }

  pub one_seated : (w : Sight) → w ≡ seating v → IsSeating s (worker + 1) w
  one_seated w same =
      subst (λ (x : Sight). IsSeating s (worker + 1) x) (sym same)
      (record { role = is.role; hand = is.hand; known = is.known; absent = ap (λ (l : List ℕ). others_of l) one_left })

  pub new_is : (w : Sight) → w ≡ new_pass v → IsNew s worker w
  new_is w same =
      subst (λ (x : Sight). IsNew s worker x) (sym same)
      (record {
        of = ap (λ (k : Known Making Table). k.opening) is.known;
        role = ap (λ (l : List ℕ). Pass (first_of l)) one_left;
        waiting = (refl, refl);
        loaded = refl;
        posts = refl;
        versions = ap (λ (k : Known Making Table). k.versions) is.known;
        posted = ap (λ (k : Known Making Table). k.posted) is.known;
        floor = ap (λ (k : Known Making Table). length k.versions - 1) is.known;
        reach = ap (λ (k : Known Making Table). length k.versions - 1) is.known;
      })

-- it is seated
pub seated_is : (s : SettingOf) (worker first count : ℕ) (w : Sight) → IsPass w → IsNew s worker w → worker < s.plan.workers → numbers_of s.plan s.round ≡ range_with_len first count → first + count ≤ 1024 → IsSeated worker first count w
seated_is s worker first count w pass new within numbers few = record {
  pass = pass;
  role = new.role;
  settled = new.waiting.1;
  setting = s;
  of = new.of;
  within = within;
  numbers = numbers;
  few = few;
}

-- the desk, once all are
pub desk_is : (s : SettingOf) (n : ℕ) (v : Sight) (book : ManagerOf) → IsSetting s → n ≡ s.plan.workers → IsSeating s n v → book ≡ record { plan = s.plan; past = s.past } → IsDesk book v
desk_is s n v book setting all is same =
    let none : s.plan.workers - n ≡ 0 = omega arith in
    subst (λ (b : ManagerOf). IsDesk b v) (sym same)
    (record {
      setting = s;
      is_setting = setting;
      opening = ap (λ (k : Known Making Table). k.opening) is.known;
      plan = refl;
      empty = record { role = is.role; hand = is.hand };
      present = is.absent ∙ ap (λ (k : ℕ). range_with_len n k) none;
      versions = ap (λ (k : Known Making Table). k.versions) is.known;
      entries = subst (λ (k : Known Making Table). GoesOn s s.past (reverse k.posted)) (sym is.known) refl;
    })

-- one pass more
pub one_more_new : (s : SettingOf) (a worker : ℕ) (vs : List Sight) (v : Sight) → worker ≡ a + length vs → AreNew s a vs → IsNew s worker v → AreNew s a (vs ++ v ∷ [])
one_more_new s a worker [] v at are new = (subst (λ (n : ℕ). IsNew s n v) (omega arith) new, tt)
one_more_new s a worker (x ∷ vs) v at are new = (are.0, one_more_new s (a + 1) worker vs v (omega arith) are.1 new)
