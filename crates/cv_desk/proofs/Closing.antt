-- A book is whole up to its round where each draw has its entry.
use Rattle.std.proofs.Common.{◌≡◌, ◌<◌, ◌+◌, ℕ, zero, suc, Bool, true, false, List, [], ◌∷◌, ◌++◌, length, Some, refl, sym, ap, ◌∙◌, ⊎_elim, eq-eqb, arith}
use Rattle.std.specs.Prelude.{◌==◌, if◌then◌else◌, reverse, slice_get}
use Rattle.std.specs.List.{AllByRecursion}
use Rattle.std.proofs.lemmas.Bool.{cases_eq, cases_lt, cond-true, lt-ltb, ne_eqb}
use Rattle.std.proofs.lemmas.List.Elements.{Contains-append_right}
use Rattle.std.proofs.lemmas.Option.{same_Some, slice_get_within}
use mathlib.Core.List.{reverse_aux}
use Rattle.cv_base.specs.declared.entries.Entry.{Entry}
use Rattle.cv_desk.proofs.Following.{all_of, has_on, of_round}
use Rattle.cv_desk.specs.Openings.{IsUpTo, SettingOf, opening_of}
use Rattle.cv_desk.specs.Passes.{Sight}
use Rattle.cv_desk.specs.Standing.{GoesOn, IsClosed, IsDesk}
use Rattle.cv_histories.specs.Legal.{round_of}
use Rattle.cv_histories.specs.Runs.{Run, runs}
use Rattle.cv_histories.specs.World.{numbers_from, numbers_of}
use Rattle.cv_laws.specs.Each.{weaker}
use Rattle.cv_laws.specs.InOrder.{HasEntry}
use Rattle.cv_laws.specs.RoundStatements.{NumbersAreOfRound}
use Rattle.cv_manager.specs.ManagerOf.{ManagerOf}
use Rattle.cv_office.specs.Told.{HasRunsOnce}
use Rattle.cv_rule.specs.Counts.{below, if_so, posted_of, total}
use Rattle.cv_rule.specs.declared.view.Posted.{Posted}

-- ---- the place of a run in its round

abbrev IsPlaced : List ℕ → ℕ → Type 0
IsPlaced numbers number = (k : ℕ) × (slice_get numbers k ≡ Some number)

place_by : (b : Bool) (n number : ℕ) (rest : List ℕ) → IsPlaced rest number → IsPlaced (if b then n ∷ rest else rest) number
place_by true n number rest has = (suc has.0, has.1)
place_by false n number rest has = has

place : (n : ℕ) (rs : List Run) (round j number : ℕ) (run : Run) → number ≡ n + j → slice_get rs j ≡ Some run → run.round ≡ round → IsPlaced (numbers_from n rs round) number
place n [] round j number run is at in_round = absurd cc
place n (r ∷ rs) round zero number run is at in_round =
    let same : r ≡ run = cc in
    let now : (r.round == round) ≡ true = eq-eqb r.round round (ap (λ (x : Run). x.round) same ∙ in_round) in
    let rest = numbers_from (n + 1) rs round in
    let here : n ≡ number = omega arith in
    (0, ap (λ (l : List ℕ). slice_get l 0) (cond-true (r.round == round) (n ∷ rest) rest now) ∙ ap Some here)
place n (r ∷ rs) round (suc j) number run is at in_round =
    place_by (r.round == round) n number (numbers_from (n + 1) rs round) (place (n + 1) rs round j number run (omega arith) at in_round)

-- ---- counts, the other way round

total_turned : {X : Type 0} (f : X → ℕ) (xs ys : List X) → total f (reverse_aux xs ys) ≡ total f xs + total f ys
total_turned f [] ys = omega arith
total_turned f (x ∷ xs) ys = omega (arith, total_turned f xs (x ∷ ys))

posted_turned : (draw : ℕ) (book : List Posted) → posted_of draw (reverse book) ≡ posted_of draw book
posted_turned draw book = omega (arith, total_turned (λ (t : Posted). if_so (t.draw == draw) 1) book [])

-- a draw below a number that is counted as often as it should be is there
counts : (draw n : ℕ) (book : List Posted) → posted_of draw book ≡ below draw n → draw < n → 0 < posted_of draw (reverse book)
counts draw n book once within =
    let one : below draw n ≡ 1 = ap (λ (b : Bool). if_so b 1) (lt-ltb draw n within) in
    omega (arith, posted_turned draw book)

-- ---- the history

module _ (s : SettingOf) where
  -- a draw that is counted has its entry
  has_entry : (number draw : ℕ) (past : List Entry) (ts : List Posted) → GoesOn s past ts → slice_get (numbers_of s.plan s.round) draw ≡ Some number → 0 < posted_of draw ts → HasEntry number past
  has_entry number draw past [] goes at some = absurd (omega arith)
  has_entry number draw [] (t ∷ ts) goes at some = absurd goes
  has_entry number draw (e ∷ past) (t ∷ ts) goes at some =
      ⊎_elim
      (λ same. (e, (0, omega arith, refl), same_Some e.run number (sym goes.0.run ∙ (ap (slice_get (numbers_of s.plan s.round)) same ∙ at))))
      (λ other.
      let none = ap (λ (b : Bool). if_so b 1) (ne_eqb t.draw draw other) in
      let found = has_entry number draw past ts goes.1 at (omega arith) in
      (found.0, Contains-append_right (e ∷ []) past found.0 found.1, found.2))
      (cases_eq t.draw draw)

  abbrev Behind : List Entry → Type 0
  Behind past = (more : List Entry) × (past ≡ more ++ s.past)

  behind : (past : List Entry) (ts : List Posted) → GoesOn s past ts → Behind past
  behind past [] goes = ([], goes)
  behind [] (t ∷ ts) goes = absurd goes
  behind (e ∷ past) (t ∷ ts) goes = let rest = behind past ts goes.1 in (e ∷ rest.0, ap (λ (l : List Entry). e ∷ l) rest.1)

  each_posted : (book : List Posted) → AllByRecursion (λ (t : Posted). Unit {0}) book
  each_posted [] = tt
  each_posted (t ∷ ts) = (tt, each_posted ts)

  pub up_to_next : NumbersAreOfRound → (past : List Entry) (book : List Posted) → GoesOn s past (reverse book) → IsUpTo s.plan s.round s.past → ((draw : ℕ) → posted_of draw book ≡ below draw (length (numbers_of s.plan s.round))) → IsUpTo s.plan (s.round + 1) past
  up_to_next numbers_are past book goes early once = record {
    all = λ number run at before.
        ⊎_elim (λ less. has_on s number past (reverse book) goes (early.all number run at less))
        (λ here.
        let placed = place 0 (runs s.plan) s.round number number run (omega arith) at (omega arith) in
        let within = slice_get_within (numbers_of s.plan s.round) placed.0 number placed.1 in
        let counted : 0 < posted_of placed.0 (reverse book) = counts placed.0 (length (numbers_of s.plan s.round)) book (once placed.0) within in
        has_entry number placed.0 past (reverse book) goes placed.1 counted)
        (cases_lt run.round s.round);
    no_others = all_of s (λ (o : Entry). round_of s.plan o < s.round + 1) (λ (t : Posted). Unit {0}) (λ o t by at _. let here = of_round s numbers_are o t.draw at in omega arith) past (reverse book) goes
        (weaker (λ (o : Entry). round_of s.plan o < s.round) (λ (o : Entry). round_of s.plan o < s.round + 1) (λ o low. omega arith) s.past early.no_others) (each_posted (reverse book));
  }

-- a desk whose draws all have their entries
pub closed : NumbersAreOfRound → (book : ManagerOf) (v w : Sight) (d : IsDesk book v) → w.known ≡ v.known → HasRunsOnce (opening_of d.setting) w → IsClosed d.setting book
closed numbers_are book v w d known once =
    let more = behind d.setting book.past (reverse v.known.posted) d.entries in
    record {
      plan = d.plan;
      more = more.0;
      behind = more.1;
      up_to = up_to_next d.setting numbers_are book.past v.known.posted d.entries d.is_setting.up_to (λ draw. ap (λ k. posted_of draw k.posted) (sym known) ∙ once draw);
    }
