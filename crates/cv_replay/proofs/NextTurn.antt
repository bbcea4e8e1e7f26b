-- A stand through a turn and through a block entry.
use Rattle.std.proofs.Common.{◌≡◌, ◌<◌, ◌+◌, ℕ, zero, suc, Bool, true, false, List, [], ◌∷◌, ◌++◌, length, drop, get_or, Option, Some, None, refl, sym, ap, ◌∙◌, subst, arith}
use Rattle.std.proofs.lemmas.Option.{same_Some}
use Rattle.std.specs.Prelude.{◌||◌, ◌&&◌, not, map, option_map, slice_get, slice_index_or, is_some, IsSome}
use Rattle.std.specs.List.{AllByRecursion}
use Rattle.cv_base.specs.declared.entries.Adopted.{Adopted}
use Rattle.cv_base.specs.PlanOf.{PlanOf}
use Rattle.cv_exec.specs.ArenaOf.{Going, adopted_in, entered, flies_so, flight_in, is_over, one_more, turns_in, wants}
use Rattle.cv_exec.specs.LiveRun.{MayAdopt, Span, adoptions_of, one_entry_more}
use Rattle.cv_histories.specs.Flight as flight
use Rattle.cv_histories.specs.Flight.{Adoption, Flight, at_entry, begun, entered_by, entered_next, flight_turn, flown, has_ended, may_enter, may_turn, turned, turned_by, turned_next}
use Rattle.cv_histories.specs.Runs.{Run, run_at}
use Rattle.cv_replay.specs.declared.cursor.Cursor.{Cursor}
use Rattle.cv_replay.specs.declared.stand.Stand.{Stand}
use Rattle.cv_histories.specs.Rows.{written}
use Rattle.cv_replay.proofs.Leaving.{first_version, next_some, no_row, none_used, row_within}
use Rattle.cv_replay.proofs.NextEntry.{left_next, number_next}
use Rattle.cv_replay.specs.Left.{IsCursor, IsLeft, MayFollow, left_at}
use Rattle.cv_replay.specs.Script.{IsScript, ScriptOf, adoptions, flight_at, steps_by_script}
use Rattle.cv_replay.specs.Standing.{IsAt, IsNear, turn_of}
use Rattle.cv_replay.specs.Statements.{StandsBefore, adoption}
use Rattle.cv_runs.specs.BlockEntries.{is_entry}
use Rattle.cv_runs.specs.PatchedRun.{PatchedStep, Table, patched_step}
use Rattle.cv_runs.specs.State.{Outcome, Next, Ended}

-- ---- what is known of a stand

-- a run is going on
pub some_going : (plan : PlanOf) (o : Option Going) (f : Flight) → flight_in plan o ≡ Some f → IsSome o
some_going plan None f is = absurd cc
some_going plan (Some g) f is = refl

-- the run of a script stands before its turn
pub stands_at : (plan : PlanOf) (s : ScriptOf) (turn : ℕ) (f : Flight) → IsScript plan s → turn < s.entry.turns → flight_at plan s turn ≡ Some f → StandsBefore plan (steps_by_script plan s) turn f
stands_at plan s turn f script below at =
    let has = script.flies turn below in
    subst (StandsBefore plan (steps_by_script plan s) turn) (same_Some has.flight f (sym has.is ∙ at)) has.stands

pub stands : (s : ScriptOf) (stand : Stand) (at : IsAt s stand) → IsScript stand.flight.plan s → StandsBefore stand.flight.plan (steps_by_script stand.flight.plan s) (turn_of stand) at.flight
stands s stand at script = stands_at stand.flight.plan s (turn_of stand) at.flight script at.below at.at

-- what may turn may not enter
no_entry : (ended at entered : Bool) → (not ended && (not at || entered)) ≡ true → (not ended && at && not entered) ≡ false
no_entry true at entered may = cc
no_entry false true true may = refl
no_entry false true false may = cc
no_entry false false entered may = refl

turns_or_enters : (plan : PlanOf) (f : Flight) → may_turn plan f ≡ true → may_enter plan f ≡ false
turns_or_enters plan f may = no_entry (has_ended plan f) (at_entry f) f.entered may

-- it has not ended, and wants no block entry
pub goes_on : (s : ScriptOf) (stand : Stand) → IsAt s stand → IsScript stand.flight.plan s → is_over stand.flight.plan stand.flight.going ≡ false
goes_on s stand at script = ap (flies_so (has_ended stand.flight.plan)) at.is ∙ (stands s stand at script).goes_on

pub wants_none : (s : ScriptOf) (stand : Stand) → IsAt s stand → IsScript stand.flight.plan s → wants stand.flight.plan stand.flight.going ≡ false
wants_none s stand at script = ap (flies_so (may_enter stand.flight.plan)) at.is ∙ turns_or_enters stand.flight.plan at.flight (stands s stand at script).may

-- ---- one turn

-- a turn adopts nothing
same_versions : (f : Flight) (step : PatchedStep) (o : Outcome) → (turned_by f step o).versions ≡ f.versions
same_versions f step (Next next transfer) = refl
same_versions f step (Ended end) = refl

turned_versions : (plan : PlanOf) (f : Flight) → (turned plan f).versions ≡ f.versions
turned_versions plan f = same_versions f (patched_step f.state (is_entry f.since f.transferred) (flight_turn plan f)) (flight_turn plan f).outcome

pub more_turns : (o : Option Going) → IsSome o → turns_in (one_more o) ≡ turns_in o + 1
more_turns None some = absurd cc
more_turns (Some g) some = refl

more_adopted : (o : Option Going) → adopted_in (one_more o) ≡ adopted_in o
more_adopted None = refl
more_adopted (Some g) = refl

-- the run of a script after one more turn
next_flown : (plan : PlanOf) (s : ScriptOf) (turn : ℕ) (run : Run) (f : Flight) → flown plan (adoptions s) (begun plan s.entry.run run) turn ≡ f → may_turn plan f ≡ true → flown plan (adoptions s) (begun plan s.entry.run run) (suc turn) ≡ entered_next plan (adoptions s) (turned plan f)
unfolding flown
next_flown plan s turn run f is may =
    ap (λ (f : Flight). entered_next plan (adoptions s) (turned_next plan f)) is
    ∙ ap (λ (b : Bool). entered_next plan (adoptions s) (elim b as (λ _. Flight) [ true ↦ turned plan f | false ↦ f ])) may

next_by : (plan : PlanOf) (s : ScriptOf) (turn : ℕ) (run : Option Run) (f : Flight) → option_map (λ (run : Run). flown plan (adoptions s) (begun plan s.entry.run run) turn) run ≡ Some f → may_turn plan f ≡ true
    → option_map (λ (run : Run). flown plan (adoptions s) (begun plan s.entry.run run) (suc turn)) run ≡ Some (entered_next plan (adoptions s) (turned plan f))
next_by plan s turn None f is may = absurd cc
next_by plan s turn (Some run) f is may = ap Some (next_flown plan s turn run f (same_Some _ f is) may)

next_at : (plan : PlanOf) (s : ScriptOf) (turn : ℕ) (f : Flight) → flight_at plan s turn ≡ Some f → may_turn plan f ≡ true → flight_at plan s (turn + 1) ≡ Some (entered_next plan (adoptions s) (turned plan f))
next_at plan s turn f at may =
    let one : turn + 1 ≡ suc turn = omega arith in
    ap (flight_at plan s) one ∙ next_by plan s turn (run_at plan s.entry.run) f at may

-- a stand whose run has made one more turn
pub turned_near : (s : ScriptOf) (old new : Stand) → IsScript old.flight.plan s → IsAt s old → turn_of old + 1 < s.entry.turns
    → new.flight.going ≡ one_more old.flight.going
    → flight_in new.flight.plan new.flight.going ≡ option_map (turned old.flight.plan) (flight_in old.flight.plan old.flight.going)
    → new.flight.plan ≡ old.flight.plan → new.cursor ≡ old.cursor
    → IsNear s new
turned_near s old new script at more going flies plan cursor =
    let turn : turn_of new ≡ turn_of old + 1 = ap turns_in going ∙ more_turns old.flight.going (some_going old.flight.plan old.flight.going at.flight at.is) in
    let may = (stands s old at script).may in
    let spans : adopted_in new.flight.going ≡ adopted_in old.flight.going = ap adopted_in going ∙ more_adopted old.flight.going in
    let number = at.behind.number in
    let next = next_at old.flight.plan s (turn_of old) at.flight at.at may in
    record {
      below = omega arith;
      flight = turned old.flight.plan at.flight;
      is = flies ∙ ap (option_map (turned old.flight.plan)) at.is;
      at = subst (λ (p : PlanOf). flight_at p s (turn_of new) ≡ Some (entered_next p (adoptions s) (turned old.flight.plan at.flight))) (sym plan)
          (ap (flight_at old.flight.plan s) turn ∙ next);
      behind = record {
        number = ap length (turned_versions old.flight.plan at.flight) ∙ number ∙ ap (λ (l : List Span). length (adoptions_of l)) (sym spans);
        left = subst (λ (l : List Span). IsLeft s l (left_at s.entry.adopted new.cursor)) (sym spans)
            (subst (λ (c : Cursor). IsLeft s (adopted_in old.flight.going) (left_at s.entry.adopted c)) (sym cursor) at.behind.left);
        cursor = subst (IsCursor s.entry.adopted) (sym cursor) at.behind.cursor;
      };
    }

-- ---- one block entry

-- what is not wanted changes nothing
pub unwanted_at : (s : ScriptOf) (stand : Stand) → IsNear s stand → wants stand.flight.plan stand.flight.going ≡ false → IsAt s stand
unwanted_at s stand near none =
    let plan = stand.flight.plan in
    let may : may_enter plan near.flight ≡ false = sym (ap (flies_so (may_enter plan)) near.is) ∙ none in
    let same : entered_next plan (adoptions s) near.flight ≡ near.flight =
    ap (λ (b : Bool). elim b as (λ _. Flight) [ true ↦ entered_by near.flight (slice_get (adoptions s) (length near.flight.versions)) | false ↦ near.flight ]) may in
    record {
      below = near.below;
      flight = near.flight;
      is = near.is;
      at = near.at ∙ ap Some same;
      behind = near.behind;
    }

-- where one is wanted, there is a version left
record IsWanted (s : ScriptOf) (stand : Stand) (f : Flight) : Type 0 where
  version : ℕ
  rest : List ℕ
  left : left_at s.entry.adopted stand.cursor ≡ version ∷ rest
  enters : entered_next stand.flight.plan (adoptions s) f ≡ flight.entered version (slice_index_or s.versions version []) f

-- the element behind others
behind_get : (xs ys : List Adoption) → slice_get (xs ++ ys) (length xs) ≡ slice_get ys 0
behind_get [] [] = refl
behind_get [] (y ∷ ys) = refl
behind_get (x ∷ xs) ys = behind_get xs ys

-- by what is left
wanted_by : (s : ScriptOf) (stand : Stand) (f : Flight) (left : List ℕ) → left_at s.entry.adopted stand.cursor ≡ left
    → entered_next stand.flight.plan (adoptions s) f ≡ entered_by f (slice_get (map (adoption s.versions) left) 0)
    → may_enter stand.flight.plan f ≡ true → may_turn stand.flight.plan (entered_next stand.flight.plan (adoptions s) f) ≡ true → IsWanted s stand f
wanted_by s stand f [] is enters may turns =
    let none : may_enter stand.flight.plan f ≡ false = turns_or_enters stand.flight.plan f (ap (may_turn stand.flight.plan) (sym enters) ∙ turns) in
    absurd cc
wanted_by s stand f (v ∷ rest) is enters may turns = record { version = v; rest = rest; left = is; enters = enters }

wanted : (s : ScriptOf) (stand : Stand) (near : IsNear s stand) → IsScript stand.flight.plan s → wants stand.flight.plan stand.flight.going ≡ true → IsWanted s stand near.flight
wanted s stand near script wants =
    let plan = stand.flight.plan in
    let f = near.flight in
    let may : may_enter plan f ≡ true = sym (ap (flies_so (may_enter plan)) near.is) ∙ wants in
    let left = left_at s.entry.adopted stand.cursor in
    let spans = adopted_in stand.flight.going in
    let at : slice_get (adoptions s) (length f.versions) ≡ slice_get (map (adoption s.versions) left) 0 =
    ap (slice_get (adoptions s)) near.behind.number
    ∙ ap (λ (l : List Adoption). slice_get l (length (adoptions_of spans))) (sym near.behind.left.whole)
    ∙ behind_get (adoptions_of spans) (map (adoption s.versions) left) in
    let enters : entered_next plan (adoptions s) f ≡ entered_by f (slice_get (map (adoption s.versions) left) 0) =
    ap (λ (b : Bool). elim b as (λ _. Flight) [ true ↦ entered_by f (slice_get (adoptions s) (length f.versions)) | false ↦ f ]) may
    ∙ ap (entered_by f) at in
    let turns = (stands_at plan s (turn_of stand) (entered_next plan (adoptions s) f) script near.below near.at).may in
    wanted_by s stand f left refl enters may turns

pub some_left : (s : ScriptOf) (stand : Stand) → IsNear s stand → IsScript stand.flight.plan s → wants stand.flight.plan stand.flight.going ≡ true → 0 < length (left_at s.entry.adopted stand.cursor)
some_left s stand near script wants =
    let w = wanted s stand near script wants in
    subst (λ (l : List ℕ). 0 < length l) (sym w.left) (omega arith)

-- each row has its table
row_placed : (P : Adopted → Type 0) (rows : List Adopted) (row : ℕ) → row < length rows → AllByRecursion P rows → P (get_or rows row no_row)
row_placed P [] row within all = absurd (omega arith)
row_placed P (a ∷ rows) zero within all = all.0
row_placed P (a ∷ rows) (suc row) within all = row_placed P rows row (omega arith) all.1

pub version_within : (s : ScriptOf) (c : Cursor) (v : ℕ) → AllByRecursion (λ (a : Adopted). a.version < length s.versions) s.entry.adopted → 0 < length (left_at s.entry.adopted c) → IsCursor s.entry.adopted c → slice_get (left_at s.entry.adopted c) 0 ≡ Some v → v < length s.versions
version_within s c v places some cursor is =
    let row = (get_or s.entry.adopted c.row no_row) in
    let same : row.version ≡ v = same_Some row.version v (sym (first_version s.entry.adopted c.row c.used some cursor) ∙ is) in
    subst (λ (v : ℕ). v < length s.versions) same (row_placed (λ (a : Adopted). a.version < length s.versions) s.entry.adopted c.row (row_within s.entry.adopted c.row c.used some) places)

-- it may be adopted
first_is : (left : List ℕ) (v w : ℕ) (rest : List ℕ) → left ≡ v ∷ rest → slice_get left 0 ≡ Some w → w ≡ v
first_is left v w rest is at = same_Some w v (sym at ∙ ap (λ (l : List ℕ). slice_get l 0) is)

pub may_adopt : (s : ScriptOf) (stand : Stand) (v : ℕ) (t : Table) → IsNear s stand → IsScript stand.flight.plan s → wants stand.flight.plan stand.flight.going ≡ true
    → slice_get (left_at s.entry.adopted stand.cursor) 0 ≡ Some v → t ≡ slice_index_or s.versions v [] → MayAdopt v t (adopted_in stand.flight.going)
may_adopt s stand v t near script wants is table =
    let w = wanted s stand near script wants in
    let same : v ≡ w.version = first_is (left_at s.entry.adopted stand.cursor) w.version v w.rest w.left is in
    let left = subst (IsLeft s (adopted_in stand.flight.going)) w.left near.behind.left in
    subst (λ (t : Table). MayAdopt v t (adopted_in stand.flight.going)) (sym table)
    (subst (λ (k : ℕ). MayAdopt k (slice_index_or s.versions k []) (adopted_in stand.flight.going)) (sym same) left.may)

-- an entry keeps the turns, and adopts one more
pub same_turns : (v : ℕ) (t : Table) (o : Option Going) → turns_in (entered v t o) ≡ turns_in o
same_turns v t None = refl
same_turns v t (Some g) = refl

entered_spans : (v : ℕ) (t : Table) (o : Option Going) → IsSome o → adopted_in (entered v t o) ≡ one_entry_more v t (adopted_in o)
entered_spans v t None some = absurd cc
entered_spans v t (Some g) some = refl

-- a stand after its block entry
pub entered_at : (s : ScriptOf) (old new : Stand) (v : ℕ) (t : Table) → IsScript old.flight.plan s → IsNear s old → wants old.flight.plan old.flight.going ≡ true
    → slice_get (left_at s.entry.adopted old.cursor) 0 ≡ Some v → t ≡ slice_index_or s.versions v []
    → new.flight.going ≡ entered v t old.flight.going
    → flight_in new.flight.plan new.flight.going ≡ option_map (flight.entered v t) (flight_in old.flight.plan old.flight.going)
    → new.flight.plan ≡ old.flight.plan
    → left_at s.entry.adopted new.cursor ≡ drop 1 (left_at s.entry.adopted old.cursor) → IsCursor s.entry.adopted new.cursor
    → IsAt s new
entered_at s old new v t script near wants is table going flies plan left cursor =
    let w = wanted s old near script wants in
    let f = near.flight in
    let own : Table = slice_index_or s.versions v [] in
    let spans = adopted_in old.flight.going in
    let same : w.version ≡ v = sym (first_is (left_at s.entry.adopted old.cursor) w.version v w.rest w.left is) in
    let turn : turn_of new ≡ turn_of old = ap turns_in going ∙ same_turns v t old.flight.going in
    let now : adopted_in new.flight.going ≡ one_entry_more v own spans =
    ap adopted_in going ∙ entered_spans v t old.flight.going (some_going old.flight.plan old.flight.going f near.is) ∙ ap (λ (t : Table). one_entry_more v t spans) table in
    let whole : left_at s.entry.adopted old.cursor ≡ v ∷ w.rest = w.left ∙ ap (λ (k : ℕ). k ∷ w.rest) same in
    let rest : left_at s.entry.adopted new.cursor ≡ w.rest = left ∙ ap (drop 1) whole in
    let had : IsLeft s spans (v ∷ w.rest) = subst (IsLeft s spans) whole near.behind.left in
    let enters : entered_next old.flight.plan (adoptions s) f ≡ flight.entered v t f =
    w.enters ∙ ap (λ (k : ℕ). flight.entered k (slice_index_or s.versions k []) f) same ∙ ap (λ (t : Table). flight.entered v t f) (sym table) in
    let below = near.below in
    record {
      below = omega arith;
      flight = flight.entered v t f;
      is = flies ∙ ap (option_map (flight.entered v t)) near.is;
      at = subst (λ (p : PlanOf). flight_at p s (turn_of new) ≡ Some (flight.entered v t f)) (sym plan)
          (ap (flight_at old.flight.plan s) turn ∙ near.at ∙ ap Some enters);
      behind = record {
        number = ap suc near.behind.number ∙ sym (number_next spans v own had.may) ∙ ap (λ (l : List Span). length (adoptions_of l)) (sym now);
        left = subst (λ (l : List Span). IsLeft s l (left_at s.entry.adopted new.cursor)) (sym now)
            (subst (IsLeft s (one_entry_more v own spans)) (sym rest) (left_next s spans v w.rest had));
        cursor = cursor;
      };
    }

-- ---- at the start

-- the run of a script is in the plan
run_there : (plan : PlanOf) (s : ScriptOf) (turn : ℕ) (o : Option Run) (f : Flight) → run_at plan s.entry.run ≡ o → option_map (λ (run : Run). flown plan (adoptions s) (begun plan s.entry.run run) turn) o ≡ Some f → (run : Run) × (run_at plan s.entry.run ≡ Some run)
run_there plan s turn None f is at = absurd cc
run_there plan s turn (Some run) f is at = (run, is)

pub script_run : (plan : PlanOf) (s : ScriptOf) → IsScript plan s → (run : Run) × (run_at plan s.entry.run ≡ Some run)
script_run plan s script =
    let first = script.flies 0 script.some in
    run_there plan s 0 (run_at plan s.entry.run) first.flight refl first.is

pub some_run : (plan : PlanOf) (s : ScriptOf) → IsScript plan s → IsSome (run_at plan s.entry.run)
some_run plan s script = ap is_some (script_run plan s script).1

first_flown : (plan : PlanOf) (s : ScriptOf) (run : Run) → flown plan (adoptions s) (begun plan s.entry.run run) 0 ≡ entered_next plan (adoptions s) (begun plan s.entry.run run)
unfolding flown
first_flown plan s run = refl

may_first : (versions : List Table) (left : List ℕ) → MayFollow versions left []
may_first versions [] = tt
may_first versions (v ∷ left) = tt

-- a stand whose run was started
pub begun_near : (s : ScriptOf) (stand : Stand) (worker : ℕ) → IsScript stand.flight.plan s
    → stand.flight.going ≡ Some (record { run = s.entry.run; worker = worker; turns = 0; adopted = [] })
    → flight_in stand.flight.plan stand.flight.going ≡ option_map (λ (r : Run). begun stand.flight.plan s.entry.run r) (run_at stand.flight.plan s.entry.run)
    → stand.cursor ≡ record { row = 0; used = 0 }
    → IsNear s stand
begun_near s stand worker script going flies cursor =
    let plan = stand.flight.plan in
    let found = script_run plan s script in
    let run = found.0 in
    let turn : turn_of stand ≡ 0 = ap turns_in going in
    let spans : adopted_in stand.flight.going ≡ [] = ap adopted_in going in
    let all : left_at s.entry.adopted stand.cursor ≡ written s.entry.adopted = ap (left_at s.entry.adopted) cursor ∙ none_used s.entry.adopted in
    let some = script.some in
    record {
      below = omega arith;
      flight = begun plan s.entry.run run;
      is = flies ∙ ap (option_map (λ (r : Run). begun plan s.entry.run r)) found.1;
      at = ap (flight_at plan s) turn ∙ ap (option_map (λ (run : Run). flown plan (adoptions s) (begun plan s.entry.run run) 0)) found.1 ∙ ap Some (first_flown plan s run);
      behind = record {
        number = ap (λ (l : List Span). length (adoptions_of l)) (sym spans);
        left = subst (λ (l : List Span). IsLeft s l (left_at s.entry.adopted stand.cursor)) (sym spans)
            (subst (IsLeft s []) (sym all) (record { whole = refl; rises = script.rises; may = may_first s.versions (written s.entry.adopted) }));
        cursor = subst (IsCursor s.entry.adopted) (sym cursor) (next_some s.entry.adopted 0 script.counted);
      };
    }
