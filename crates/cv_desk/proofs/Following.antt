-- An entry of a draw may follow the book's history.
use Rattle.std.proofs.Common.{◌≡◌, ◌≤◌, ◌<◌, ◌+◌, ℕ, zero, suc, Bool, true, false, List, [], ◌∷◌, ◌++◌, length, replicate, Option, Some, None, refl, sym, ap, ◌∙◌, subst, ⊎_elim, eq-eqb, le-ltb, arith}
use Rattle.std.specs.Prelude.{◌≢◌, ◌==◌, cond, nat_lt, reverse, slice_get}
use Rattle.std.specs.List.{AllByRecursion}
use Rattle.std.proofs.lemmas.Bool.{cases_lt}
use Rattle.std.proofs.lemmas.List.Elements.{Contains-append_right}
use mathlib.Core.List.{reverse_aux}
use Rattle.cv_base.specs.declared.entries.Adopted.{Adopted}
use Rattle.cv_base.specs.declared.entries.Entry.{Entry}
use Rattle.cv_base.specs.declared.plan.Mode.{Mode}
use Rattle.cv_base.specs.declared.plan.Mode.TheVariants.{Learn, Live}
use Rattle.cv_base.specs.PlanOf.{PlanOf}
use Rattle.cv_desk.specs.Openings.{IsSetting, SettingOf, opening_of}
use Rattle.cv_desk.specs.Standing.{GoesOn}
use Rattle.cv_histories.specs.Honest.{IsHonest, IsJoined, IsOfMode}
use Rattle.cv_histories.specs.Legal.{EarlierRoundsDone, MayFollow, NeverFalls, floor_of, round_in, round_of, up_to}
use Rattle.cv_histories.specs.Rows.{written}
use Rattle.cv_histories.specs.Runs.{run_at}
use Rattle.cv_histories.specs.Versions.{ledger, newest}
use Rattle.cv_histories.specs.World.{numbers_of}
use Rattle.cv_laws.specs.Each.{weaker}
use Rattle.cv_laws.specs.InOrder.{HasEntry}
use Rattle.cv_laws.specs.RoundStatements.{NumbersAreOfRound, NumbersRise}
use Rattle.cv_laws.specs.VersionStatements.{FloorIsBelow, FloorStays}
use Rattle.cv_rule.specs.Counts.{IsAbove, if_so, last_after, last_of, posted_of, version_after}
use Rattle.cv_rule.specs.Rule.{IsFloor}
use Rattle.cv_rule.specs.declared.view.Posted.{Posted}
use Rattle.cv_rule.specs.declared.view.Row.{Row}
use Rattle.cv_runs.specs.PatchedRun.{Table}

-- ---- lists

-- what holds of each, the other way round
turned_all : {X : Type 0} (Q : X → Type 0) (rest done : List X) → AllByRecursion Q rest → AllByRecursion Q done → AllByRecursion Q (reverse_aux rest done)
turned_all Q [] done all so_far = so_far
turned_all Q (x ∷ rest) done all so_far = turned_all Q rest (x ∷ done) all.1 (all.0, so_far)

pub all_reverse : {X : Type 0} (Q : X → Type 0) (xs : List X) → AllByRecursion Q xs → AllByRecursion Q (reverse xs)
all_reverse Q xs all = turned_all Q xs [] all tt

-- ---- rows of versions

-- versions that are written out, with the rest
written_rest : (P : ℕ → Type 0) (n v : ℕ) (rest : List ℕ) → AllByRecursion P (replicate n v ++ rest) → AllByRecursion P rest
written_rest P zero v rest all = all
written_rest P (suc n) v rest all = written_rest P n v rest all.1

written_first : (P : ℕ → Type 0) (n v : ℕ) (rest : List ℕ) → 1 ≤ n → AllByRecursion P (replicate n v ++ rest) → P v
written_first P zero v rest some all = absurd (omega arith)
written_first P (suc n) v rest some all = all.0

-- what holds of each version that rows write out holds of each row
pub rows_all : (P : ℕ → Type 0) (rows : List Adopted) → IsJoined rows → AllByRecursion P (written rows) → AllByRecursion (λ (a : Adopted). P a.version) rows
rows_all P [] is all = tt
rows_all P (a ∷ []) is all = (written_first P a.entries a.version [] is all, tt)
rows_all P (a ∷ b ∷ rest) is all =
    (written_first P a.entries a.version (written (b ∷ rest)) is.0 all, rows_all P (b ∷ rest) is.2 (written_rest P a.entries a.version (written (b ∷ rest)) all))

-- the rows of an honest entry are joined
joined_by : (m : Mode) (plan : PlanOf) (versions : List Table) (input : List ℕ) (e : Entry) → IsOfMode m plan versions input e → IsJoined e.adopted
joined_by Learn plan versions input e is = subst IsJoined (sym is.adopted) tt
joined_by Live plan versions input e is = is.joined

pub honest_joined : (plan : PlanOf) (versions : List Table) (e : Entry) → IsHonest plan versions e → IsJoined e.adopted
honest_joined plan versions e is = joined_by e.mode plan versions is.run.input e is.as_it_ran

-- ---- the book list

-- no entry has a draw that is counted nowhere
none_of : (draw : ℕ) (book : List Posted) → posted_of draw book ≡ 0 → AllByRecursion (λ (t : Posted). t.draw ≢ draw) book
none_of draw [] none = tt
none_of draw (t ∷ ts) none = (
  λ same.
      let one : if_so true 1 + posted_of draw ts ≡ 0 = subst (λ (b : Bool). if_so b 1 + posted_of draw ts ≡ 0) (eq-eqb t.draw draw same) none in
      absurd (omega arith),
  none_of draw ts (omega arith),
)

-- a worker's last entry, in a list that has its newest first
last_in : ℕ → List Posted → Option Posted
last_in worker [] = None
last_in worker (t ∷ ts) = cond (t.worker == worker) (Some t) (last_in worker ts)

last_is : (worker : ℕ) (ts before : List Posted) → last_after worker (last_in worker before) ts ≡ last_in worker (reverse_aux ts before)
unfolding last_in
last_is worker [] before = refl
last_is worker (t ∷ ts) before = last_is worker ts (t ∷ before)

last_found : (worker : ℕ) (book : List Posted) → last_of worker book ≡ last_in worker (reverse book)
unfolding last_in
last_found worker book = last_is worker book []

-- ---- a history that goes on

-- laws on histories: the numbers of a round are those of its runs and rise, and a floor is at most the newest version and stays
pub record HistoryLaws : Type 0 where
  pub numbers_are : NumbersAreOfRound
  pub numbers_rise : NumbersRise
  pub floor_below : FloorIsBelow
  pub floor_stays : FloorStays

module _ (s : SettingOf) where
  -- what holds of each entry at the making, and of each that a draw has, holds of all
  pub all_of : (P : Entry → Type 0) (Q : Posted → Type 0)
      → ((o : Entry) (t : Posted) → o.worker ≡ t.worker → slice_get (numbers_of s.plan s.round) t.draw ≡ Some o.run → Q t → P o)
      → (past : List Entry) (ts : List Posted) → GoesOn s past ts → AllByRecursion P s.past → AllByRecursion Q ts → AllByRecursion P past
  all_of P Q step past [] goes all each = subst (λ (l : List Entry). AllByRecursion P l) (sym goes) all
  all_of P Q step [] (t ∷ ts) goes all each = absurd goes
  all_of P Q step (o ∷ past) (t ∷ ts) goes all each = (step o t goes.0.worker goes.0.run each.0, all_of P Q step past ts goes.1 all each.1)

  -- a run that has an entry keeps it
  pub has_on : (number : ℕ) (past : List Entry) (ts : List Posted) → GoesOn s past ts → HasEntry number s.past → HasEntry number past
  has_on number past [] goes has = subst (λ (l : List Entry). HasEntry number l) (sym goes) has
  has_on number [] (t ∷ ts) goes has = absurd goes
  has_on number (o ∷ past) (t ∷ ts) goes has =
      let found = has_on number past ts goes.1 has in
      (found.0, Contains-append_right (o ∷ []) past found.0 found.1, found.2)

  -- an entry that a draw has is of the round
  pub of_round : NumbersAreOfRound → (o : Entry) (draw : ℕ) → slice_get (numbers_of s.plan s.round) draw ≡ Some o.run → round_of s.plan o ≡ s.round
  of_round numbers_are o draw at = let of = numbers_are s.plan s.round draw o.run at in ap round_in of.of_plan ∙ of.in_round

module _ (laws : HistoryLaws) (s : SettingOf) where
  -- the newest version after a worker's last entry, by whether the last entry is the worker's
  by_last : (worker low : ℕ) (b : Bool) (o : Entry) (past : List Entry) (t : Posted) (ts : List Posted) → t.version ≡ newest s.plan (o ∷ past)
      → (version_after (last_in worker ts) ≤ low → floor_of s.plan (λ (x : Entry). x.worker == worker) past ≤ low)
      → version_after (cond b (Some t) (last_in worker ts)) ≤ low
      → newest s.plan (elim b [ true ↦ o ∷ past | false ↦ up_to (λ (x : Entry). x.worker == worker) past ]) ≤ low
  by_last worker low true o past t ts version rest below = omega arith
  by_last worker low false o past t ts version rest below = rest below

  floor_on : (worker low : ℕ) (past : List Entry) (ts : List Posted) → GoesOn s past ts → newest s.plan s.past ≤ low → version_after (last_in worker ts) ≤ low
      → floor_of s.plan (λ (x : Entry). x.worker == worker) past ≤ low
  unfolding last_in
  floor_on worker low past [] goes made last =
      let below = laws.floor_below s.plan (λ (x : Entry). x.worker == worker) s.past in
      subst (λ (l : List Entry). floor_of s.plan (λ (x : Entry). x.worker == worker) l ≤ low) (sym goes) (omega arith)
  floor_on worker low [] (t ∷ ts) goes made last = absurd goes
  floor_on worker low (o ∷ past) (t ∷ ts) goes made last =
      subst (λ (n : ℕ). newest s.plan (elim (n == worker) [ true ↦ o ∷ past | false ↦ up_to (λ (x : Entry). x.worker == worker) past ]) ≤ low) (sym goes.0.worker)
      (by_last worker low (t.worker == worker) o past t ts goes.0.version (floor_on worker low past ts goes.1 made) last)

  -- the newest version after all earlier rounds is at most the newest one at the making
  rounds_floor : (round : ℕ) → round ≡ s.round → (past : List Entry) (ts : List Posted) → GoesOn s past ts
      → floor_of s.plan (λ (o : Entry). nat_lt (round_of s.plan o) round) past ≤ newest s.plan s.past
  rounds_floor round is past [] goes =
      subst (λ (l : List Entry). floor_of s.plan (λ (o : Entry). nat_lt (round_of s.plan o) round) l ≤ newest s.plan s.past) (sym goes)
      (laws.floor_below s.plan (λ (o : Entry). nat_lt (round_of s.plan o) round) s.past)
  rounds_floor round is [] (t ∷ ts) goes = absurd goes
  rounds_floor round is (e ∷ past) (t ∷ ts) goes =
      let here = of_round s laws.numbers_are e t.draw goes.0.run in
      let rest = rounds_floor round is past ts goes.1 in
      let stays = laws.floor_stays s.plan (λ (o : Entry). nat_lt (round_of s.plan o) round) past e (le-ltb (round_of s.plan e) round (omega arith)) in
      omega arith

-- ---- the entry of a row

-- one version that is within the floors
abbrev pub IsWithinAt : SettingOf → List Entry → List Posted → Row → ℕ → Type 0
IsWithinAt s past book r v = IsFloor (opening_of s) book r.worker v × (v < length (ledger s.plan past).versions)

module _ (laws : HistoryLaws) (s : SettingOf) (is : IsSetting s) (past : List Entry) (book : List Posted) (goes : GoesOn s past (reverse book)) (e : Entry) (r : Row) (run : slice_get (numbers_of s.plan s.round) r.draw ≡ Some e.run) (worker : e.worker ≡ r.worker) where
  round_is : round_of s.plan e ≡ s.round
  round_is = of_round s laws.numbers_are e r.draw run

  fresh : posted_of r.draw book ≡ 0 → AllByRecursion (λ (o : Entry). o.run ≢ e.run) past
  fresh none =
      all_of s (λ (o : Entry). o.run ≢ e.run) (λ (t : Posted). t.draw ≢ r.draw)
      (λ o t by at differ same.
      ⊎_elim (λ less. let below = laws.numbers_rise s.plan s.round t.draw r.draw o.run e.run less at run in absurd (omega arith))
      (λ more.
      ⊎_elim (λ above. let below = laws.numbers_rise s.plan s.round r.draw t.draw e.run o.run above run at in absurd (omega arith)) (λ least. absurd (differ (omega arith)))
      (cases_lt r.draw t.draw))
      (cases_lt t.draw r.draw))
      past (reverse book) goes
      (weaker (λ (o : Entry). round_of s.plan o < s.round) (λ (o : Entry). o.run ≢ e.run)
      (λ o low same.
      let equal : round_of s.plan o ≡ round_of s.plan e = ap (λ (n : ℕ). round_in (run_at s.plan n)) same in
      let here = round_is in
      absurd (omega arith))
      s.past is.up_to.no_others)
      (all_reverse (λ (t : Posted). t.draw ≢ r.draw) book (none_of r.draw book none))

  rises : IsAbove book r.worker r.draw → AllByRecursion (λ (o : Entry). round_of s.plan o ≡ round_of s.plan e → o.worker ≡ e.worker → o.run < e.run) past
  rises above =
      all_of s (λ (o : Entry). round_of s.plan o ≡ round_of s.plan e → o.worker ≡ e.worker → o.run < e.run) (λ (t : Posted). t.worker ≡ r.worker → t.draw < r.draw)
      (λ o t by at less same_round same. laws.numbers_rise s.plan s.round t.draw r.draw o.run e.run (less (sym by ∙ (same ∙ worker))) at run) past (reverse book) goes
      (weaker (λ (o : Entry). round_of s.plan o < s.round) (λ (o : Entry). round_of s.plan o ≡ round_of s.plan e → o.worker ≡ e.worker → o.run < e.run)
      (λ o low same_round same. let here = round_is in absurd (omega arith)) s.past is.up_to.no_others)
      (all_reverse (λ (t : Posted). t.worker ≡ r.worker → t.draw < r.draw) book above)

  rounds : EarlierRoundsDone s.plan (round_of s.plan e) past
  rounds = λ number found at before. has_on s number past (reverse book) goes (is.up_to.all number found at (let here = round_is in omega arith))

  above_worker : (low : ℕ) → IsFloor (opening_of s) book r.worker low → floor_of s.plan (λ (o : Entry). o.worker == e.worker) past ≤ low
  above_worker low floor =
      subst (λ (n : ℕ). floor_of s.plan (λ (o : Entry). o.worker == n) past ≤ low) (sym worker)
      (floor_on laws s r.worker low past (reverse book) goes floor.0 (subst (λ (f : Option Posted). version_after f ≤ low) (last_found r.worker book) floor.1))

  above_rounds : (low : ℕ) → IsFloor (opening_of s) book r.worker low → floor_of s.plan (λ (o : Entry). nat_lt (round_of s.plan o) (round_of s.plan e)) past ≤ low
  above_rounds low floor =
      let below = rounds_floor laws s (round_of s.plan e) round_is past (reverse book) goes in
      let made = floor.0 in
      omega arith

  abbrev IsWithin : ℕ → Type 0
  IsWithin v = IsWithinAt s past book r v

  -- the entry may follow
  pub may_follow : r.worker < s.plan.workers → posted_of r.draw book ≡ 0 → IsAbove book r.worker r.draw → IsHonest s.plan (ledger s.plan past).versions e → NeverFalls e.adopted
      → AllByRecursion IsWithin (written e.adopted) → MayFollow s.plan past e
  may_follow planned none above honest falls within =
      let each : AllByRecursion (λ (a : Adopted). IsWithin a.version) e.adopted = rows_all IsWithin e.adopted (honest_joined s.plan (ledger s.plan past).versions e honest) within in
      record {
        worker = omega arith;
        fresh = fresh none;
        rounds = rounds;
        rises = rises above;
        honest = honest;
        never_falls = falls;
        above_worker = weaker (λ (a : Adopted). IsWithin a.version) (λ (a : Adopted). floor_of s.plan (λ (o : Entry). o.worker == e.worker) past ≤ a.version) (λ a is_within. above_worker a.version is_within.0) e.adopted each;
        above_rounds = weaker (λ (a : Adopted). IsWithin a.version) (λ (a : Adopted). floor_of s.plan (λ (o : Entry). nat_lt (round_of s.plan o) (round_of s.plan e)) past ≤ a.version)
            (λ a is_within. above_rounds a.version is_within.0) e.adopted each;
        at_most_newest = weaker (λ (a : Adopted). IsWithin a.version) (λ (a : Adopted). a.version ≤ newest s.plan past) (λ a is_within. let below = is_within.1 in omega arith) e.adopted each;
      }
