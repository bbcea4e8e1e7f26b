-- The master takes the passes of an office.
use Rattle.std.proofs.Common.{◌≡◌, ◌≤◌, ◌<◌, ◌+◌, ◌⊎◌, ℕ, Bool, true, false, List, [], ◌∷◌, ◌++◌, length, inl, inr, ⊎_elim, refl, sym, ap, ◌∙◌, arith, length-append}
use Rattle.std.specs.Prelude.{◌||◌, nat_lt}
use Rattle.std.specs.List.{AllByRecursion, list_any}
use Rattle.std.proofs.lemmas.Bool.{le-leb, ltb-true}
use Rattle.cv_desk.proofs.Telling.{renewed_absent}
use Rattle.cv_desk.specs.Openings.{SettingOf, opening_of}
use Rattle.cv_desk.specs.Passes.{AreDone, IsDone, IsOf, IsOfWorker, Sight}
use Rattle.cv_desk.specs.declared.making.Making.{Making}
use Rattle.cv_histories.specs.World.{numbers_of}
use Rattle.cv_office.specs.Told.{IsAlone, IsToldBoth}
use Rattle.cv_rule.specs.Counts.{idle_rows, if_so}
use Rattle.cv_rule.specs.Laws.{RenewedStays}
use Rattle.cv_rule.specs.Steps.{absent_with, joined, renewed}
use Rattle.cv_rule.specs.declared.view.Known.{Known}
use Rattle.cv_rule.specs.declared.view.Role.{Role}
use Rattle.cv_rule.specs.declared.view.Role.TheVariants.{Master, Pass}
use Rattle.cv_rule.specs.declared.view.Row.{Row}
use Rattle.cv_runs.specs.PatchedRun.{Table}

-- a pass that has a row
abbrev has_row : Sight → Bool
has_row v = nat_lt 0 (length v.hand)

-- ---- rows

idle_append : (runs : ℕ) (xs ys : List Row) → idle_rows runs (xs ++ ys) ≡ idle_rows runs xs + idle_rows runs ys
idle_append runs [] ys = omega arith
idle_append runs (x ∷ xs) ys = omega (arith, idle_append runs xs ys)

idle_some : (runs : ℕ) (hand : List Row) → 0 < length hand → AllByRecursion (λ (r : Row). runs ≤ r.draw) hand → 0 < idle_rows runs hand
idle_some runs [] some all = absurd (omega arith)
idle_some runs (r ∷ rs) some all = omega (arith, ap (λ (b : Bool). if_so b 1) (le-leb runs r.draw all.0))

any_push : (xs : List Sight) (x : Sight) → list_any has_row (xs ++ x ∷ []) ≡ true → (list_any has_row xs ≡ true) ⊎ (has_row x ≡ true)
any_push [] x any = inr (last (has_row x) any)
  where
    last : (b : Bool) → (b || false) ≡ true → b ≡ true
    last true is = refl
    last false is = is
any_push (y ∷ xs) x any = first (has_row y) (list_any has_row (xs ++ x ∷ [])) (list_any has_row xs) (has_row x) any (any_push xs x)
  where
    first : (b c d e : Bool) → (b || c) ≡ true → (c ≡ true → (d ≡ true) ⊎ (e ≡ true)) → ((b || d) ≡ true) ⊎ (e ≡ true)
    first true c d e is rest = inl refl
    first false c d e is rest = rest is

-- ---- passes that were taken

-- the master, which was this at first, once it took these passes
pub record HasTaken (s : SettingOf) (first : Sight) (passes : List Sight) (v : Sight) : Type 0 where
  pub role : v.role ≡ Master
  pub known : v.known ≡ first.known
  pub absent : length v.absent ≡ length passes
  pub past : list_any has_row passes ≡ true → 0 < idle_rows (length (numbers_of s.plan s.round)) v.hand
  pub of : 0 < length passes → IsOf s first

pub none_taken : (s : SettingOf) (v : Sight) → v.role ≡ Master → v.absent ≡ [] → HasTaken s v [] v
none_taken s v role absent = record {
  role = role;
  known = refl;
  absent = ap (λ (l : List ℕ). length l) absent;
  past = λ any. absurd (cc any);
  of = λ some. absurd (omega arith);
}

-- a pass's worker is absent then
one_absent : (role : Role) (worker : ℕ) (absent : List ℕ) → role ≡ Pass worker → length (absent_with role absent) ≡ length absent + 1
one_absent role worker absent is = ap (λ (r : Role). length (absent_with r absent)) is ∙ omega arith

module _ (stays : RenewedStays Making Table) (s : SettingOf) (first : Sight) (passes : List Sight) (m p w : Sight) (taken : HasTaken s first passes m) (done : IsDone s p) (worker : ℕ) (of_worker : IsOfWorker worker p) (told : IsToldBoth (joined m p)) (same : w ≡ renewed (joined m p)) (known : w.known ≡ m.known) where
  hand : w.hand ≡ m.hand ++ p.hand
  hand = ap (λ (v : Sight). v.hand) same ∙ (stays (joined m p)).hand

  absent : length w.absent ≡ length m.absent + 1
  absent = ap (λ (v : Sight). length v.absent) same ∙ (ap (λ (l : List ℕ). length l) (renewed_absent (joined m p)) ∙ one_absent p.role worker m.absent of_worker)

  pub one_taken : HasTaken s first (passes ++ p ∷ []) w
  one_taken =
      let runs = length (numbers_of s.plan s.round) in
      let sum = ap (λ (l : List Row). idle_rows runs l) hand in
      let parts = idle_append runs m.hand p.hand in
      record {
        role = ap (λ (v : Sight). v.role) same ∙ ((stays (joined m p)).role ∙ taken.role);
        known = known ∙ taken.known;
        absent = omega (arith, absent, taken.absent, length-append passes (p ∷ []));
        past = λ any.
            ⊎_elim (λ before. let some = taken.past before in omega arith) (λ here. let some = idle_some runs p.hand (ltb-true 0 (length p.hand) here) done.idle in omega arith) (any_push passes p any);
        of = λ _.
            ap (λ (k : Known Making Table). k.opening) (sym taken.known) ∙ (told.1.opening ∙ (sym told.1.beside ∙ done.of));
      }

-- with all of them it is alone
pub alone : (s : SettingOf) (first : Sight) (passes : List Sight) (v : Sight) → HasTaken s first passes v → AreDone s passes → 0 < length passes → IsAlone (opening_of s) v
alone s first passes v taken done some = record {
  role = taken.role;
  opening = ap (λ (k : Known Making Table). k.opening) taken.known ∙ taken.of some;
  absent = taken.absent ∙ done.all;
  past = taken.past done.past;
}

-- there is one at least
any_some : (xs : List Sight) → list_any has_row xs ≡ true → 0 < length xs
any_some [] any = absurd (cc any)
any_some (x ∷ xs) any = omega arith

pub some_pass : (s : SettingOf) (passes : List Sight) → AreDone s passes → 0 < length passes
some_pass s passes done = any_some passes done.past
