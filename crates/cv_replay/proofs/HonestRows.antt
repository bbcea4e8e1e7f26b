-- The script of an honest entry.
use Rattle.std.proofs.Common.{◌≡◌, ◌≤◌, ◌<◌, ℕ, zero, suc, List, [], ◌∷◌, ◌++◌, length, replicate, Some, sym, ap, subst, arith}
use Rattle.std.proofs.lemmas.Option.{slice_get_within}
use Rattle.std.specs.Prelude.{option_map}
use Rattle.std.specs.List.{AllByRecursion}
use Rattle.cv_base.specs.declared.entries.Adopted.{Adopted}
use Rattle.cv_base.specs.declared.entries.Entry.{Entry}
use Rattle.cv_base.specs.declared.plan.Mode.{Mode}
use Rattle.cv_base.specs.declared.plan.Mode.TheVariants.{Learn, Live}
use Rattle.cv_base.specs.PlanOf.{PlanOf}
use Rattle.cv_histories.specs.Flight.{begun, flown}
use Rattle.cv_histories.specs.Honest.{AreTables, IsHonest, IsJoined, IsOfMode}
use Rattle.cv_histories.specs.Legal.{NeverFalls}
use Rattle.cv_histories.specs.Rows.{written}
use Rattle.cv_histories.specs.Runs.{Run, run_at}
use Rattle.cv_replay.specs.Script.{AreCounted, IsScript, Rises, ScriptOf, adoptions}
use Rattle.cv_replay.specs.Statements.{HonestIsFlown}
use Rattle.cv_runs.specs.PatchedRun.{Table}

-- rows count something
joined_counted : (rows : List Adopted) → IsJoined rows → AreCounted rows
joined_counted [] joined = tt
joined_counted (a ∷ []) joined = (joined, tt)
joined_counted (a ∷ b ∷ rest) joined = (joined.0, joined_counted (b ∷ rest) joined.2)

-- versions with tables are there
all_within : (versions : List Table) (vs : List ℕ) (tables : List Table) → AreTables versions vs tables → AllByRecursion (λ (v : ℕ). v < length versions) vs
all_within versions [] tables are = tt
all_within versions (v ∷ vs) [] are = absurd are
all_within versions (v ∷ vs) (t ∷ tables) are = (slice_get_within versions v t are.0, all_within versions vs tables are.1)

-- what holds of all that is written out holds of each row
behind_copies : (P : ℕ → Type 0) (n v : ℕ) (vs : List ℕ) → AllByRecursion P (replicate n v ++ vs) → AllByRecursion P vs
behind_copies P zero v vs all = all
behind_copies P (suc n) v vs all = behind_copies P n v vs all.1

first_copy : (P : ℕ → Type 0) (n v : ℕ) (vs : List ℕ) → 1 ≤ n → AllByRecursion P (replicate n v ++ vs) → P v
first_copy P zero v vs some all = absurd (omega arith)
first_copy P (suc n) v vs some all = all.0

each_row : (P : ℕ → Type 0) (rows : List Adopted) → AreCounted rows → AllByRecursion P (written rows) → AllByRecursion (λ (a : Adopted). P a.version) rows
each_row P [] counted all = tt
each_row P (a ∷ rows) counted all =
    (first_copy P a.entries a.version (written rows) counted.0 all, each_row P rows counted.1 (behind_copies P a.entries a.version (written rows) all))

-- versions from v on
abbrev From : ℕ → List ℕ → Type 0
From v [] = Unit {0}
From v (w ∷ vs) = v ≤ w

from_copies : (u n v : ℕ) (vs : List ℕ) → u ≤ v → From u vs → From u (replicate n v ++ vs)
from_copies u zero v vs below from = from
from_copies u (suc n) v vs below from = below

one_rises : (v : ℕ) (vs : List ℕ) → From v vs → Rises vs → Rises (v ∷ vs)
one_rises v [] from rises = tt
one_rises v (w ∷ vs) from rises = (from, rises)

copies_rise : (n v : ℕ) (vs : List ℕ) → From v vs → Rises vs → Rises (replicate n v ++ vs)
copies_rise zero v vs from rises = rises
copies_rise (suc n) v vs from rises =
    one_rises v (replicate n v ++ vs) (from_copies v n v vs (omega arith) from) (copies_rise n v vs from rises)

first_from : (u n v : ℕ) (vs : List ℕ) → 1 ≤ n → u ≤ v → From u (replicate n v ++ vs)
first_from u zero v vs some below = absurd (omega arith)
first_from u (suc n) v vs some below = below

rows_rise : (rows : List Adopted) → AreCounted rows → NeverFalls rows → Rises (written rows)
rows_rise [] counted falls = tt
rows_rise (a ∷ []) counted falls = copies_rise a.entries a.version [] tt tt
rows_rise (a ∷ b ∷ rest) counted falls =
    copies_rise a.entries a.version (written (b ∷ rest)) (first_from a.version b.entries b.version (written rest) counted.1.0 falls.0)
    (rows_rise (b ∷ rest) counted.1 falls.1)

-- an honest entry's
counted_by : (plan : PlanOf) (versions : List Table) (input : List ℕ) (e : Entry) (mode : Mode) → IsOfMode mode plan versions input e → AreCounted e.adopted
counted_by plan versions input e Learn is = subst AreCounted (sym is.adopted) tt
counted_by plan versions input e Live is = joined_counted e.adopted is.joined

places_by : (plan : PlanOf) (versions : List Table) (input : List ℕ) (e : Entry) (mode : Mode) → IsOfMode mode plan versions input e → AllByRecursion (λ (a : Adopted). a.version < length versions) e.adopted
places_by plan versions input e Learn is = subst (AllByRecursion (λ (a : Adopted). a.version < length versions)) (sym is.adopted) tt
places_by plan versions input e Live is =
    each_row (λ (v : ℕ). v < length versions) e.adopted (joined_counted e.adopted is.joined) (all_within versions (written e.adopted) is.tables is.adopted)

-- its script may be followed
pub honest_script : HonestIsFlown → (plan : PlanOf) (versions : List Table) (e : Entry) (s : ScriptOf) → 1 ≤ plan.budget → IsHonest plan versions e → NeverFalls e.adopted
    → s ≡ record { entry = e; versions = versions } → IsScript plan s
honest_script is_flown plan versions e s budget honest falls is =
    let run = honest.run in
    let said = is_flown plan versions e run honest honest.of_plan in
    let own : ScriptOf = record { entry = e; versions = versions } in
    let counted = counted_by plan versions run.input e e.mode honest.as_it_ran in
    let some = said.1 budget in
    subst (IsScript plan) (sym is)
    (record {
      turns = said.0;
      some = subst (λ (n : ℕ). 0 < n) (sym said.0) some;
      flies = λ turn below.
          record {
            flight = flown plan (adoptions own) (begun plan e.run run) turn;
            is = ap (option_map (λ (run : Run). flown plan (adoptions own) (begun plan e.run run) turn)) honest.of_plan;
            stands = said.2 turn (subst (λ (n : ℕ). turn < n) said.0 below);
          };
      counted = counted;
      places = places_by plan versions run.input e e.mode honest.as_it_ran;
      rises = rows_rise e.adopted counted falls;
    })

-- and is there
pub some_run : (plan : PlanOf) (versions : List Table) (e : Entry) → IsHonest plan versions e → (run : Run) × (run_at plan e.run ≡ Some run)
some_run plan versions e honest = (honest.run, honest.of_plan)
