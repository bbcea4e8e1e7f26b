-- Of one run by one worker there is one honest entry whose versions begin in one way.
use Rattle.std.proofs.Common.{◌≡◌, ◌+◌, ℕ, suc, zero, Bool, true, false, List, [], ◌∷◌, length, Option, Some, None, refl, sym, ap, ◌∙◌, subst, arith}
use Rattle.std.specs.Prelude.{if◌then◌else◌, option_map, option_and_then, reverse, slice_get}
use Rattle.cv_base.specs.declared.ends.End.{End}
use Rattle.cv_base.specs.declared.entries.Adopted.{Adopted}
use Rattle.cv_base.specs.declared.entries.Entry.{Entry}
use Rattle.cv_base.specs.declared.entries.FiredRow.{FiredRow}
use Rattle.cv_base.specs.declared.entries.TallyRow.{TallyRow}
use Rattle.cv_base.specs.declared.plan.Mode.{Mode}
use Rattle.cv_base.specs.declared.plan.Mode.TheVariants.{Learn, Live}
use Rattle.cv_base.specs.Picture.{Picture}
use Rattle.cv_base.specs.PlanOf.{PlanOf}
use Rattle.cv_histories.specs.Flight.{joined}
use Rattle.cv_histories.specs.Honest.{AreTables, IsLearn, IsLive, IsOfMode}
use Rattle.cv_histories.specs.Rows.{checks_in, fired_of, firings_in, sites_in, tally_of, written}
use Rattle.cv_histories.specs.Runs.{Run, run_at}
use Rattle.cv_laws.specs.Statements.{RowsAreJoined}
use Rattle.cv_laws.specs.TurnStatements.{PatchedTurnFirst, UnderTables, step_with, table_at}
use Rattle.cv_runs.specs.BlockEntries.{is_entry, since_next}
use Rattle.cv_runs.specs.PatchedRun.{PatchedStep, Table, entries_in, followed, notes_of, patched_from, patched_turn, steps_of}
use Rattle.cv_runs.specs.PlainRun.{end_of, state_left}
use Rattle.cv_runs.specs.State.{State, Outcome, Next, Ended, start_state}
use Rattle.cv_audit.specs.Statements.{AgreeSoFar, OneHonestEntry}

-- ---- two runs whose tables agree wherever both have one take the same steps

abbrev Steps : Type 0
Steps = Option (List PatchedStep)

-- behind one step
behind : (step : PatchedStep) (o p : Steps) (xs ys : List PatchedStep) → ((zs ws : List PatchedStep) → o ≡ Some zs → p ≡ Some ws → zs ≡ ws)
    → option_map (λ (steps : List PatchedStep). step ∷ steps) o ≡ Some xs → option_map (λ (steps : List PatchedStep). step ∷ steps) p ≡ Some ys → xs ≡ ys
behind step None p xs ys same first second = absurd cc
behind step (Some zs) None xs ys same first second = absurd cc
behind step (Some zs) (Some ws) xs ys same first second =
    let rest : zs ≡ ws = same zs ws refl refl in
    let one : step ∷ zs ≡ xs = cc in
    let other : step ∷ ws ≡ ys = cc in
    sym one ∙ ap (λ (steps : List PatchedStep). step ∷ steps) rest ∙ other

-- by how the step ends
by_outcome : (step : PatchedStep) (o : Outcome) (f g : State → Bool → Steps) (xs ys : List PatchedStep)
    → ((next : State) (transfer : Bool) (zs ws : List PatchedStep) → f next transfer ≡ Some zs → g next transfer ≡ Some ws → zs ≡ ws)
    → followed step o f ≡ Some xs → followed step o g ≡ Some ys → xs ≡ ys
by_outcome step (Next next transfer) f g xs ys same first second = behind step (f next transfer) (g next transfer) xs ys (same next transfer) first second
by_outcome step (Ended end) f g xs ys same first second = cc

-- there is no run where a table is missing
no_table : (image : Picture) (tables : ℕ → Option Table) (k : ℕ) (s : State) (since : Option ℕ) (transferred : Bool) (made : ℕ) (current : Table)
    → table_at tables (is_entry since transferred) made current ≡ None → patched_from image tables (suc k) s since transferred made current ≡ None
unfolding patched_from
no_table image tables k s since transferred made current due =
    ap (option_and_then (λ (t : Table). followed (step_with image t s since transferred) (patched_turn image t s).outcome
    (λ (next : State) (transfer : Bool). patched_from image tables k next (since_next (is_entry since transferred) since) transfer (if is_entry since transferred then made + 1 else made) t))) due

-- tables that agree wherever both have one
abbrev AgreeAt : (ℕ → Option Table) → (ℕ → Option Table) → Type 0
AgreeAt f g = (n : ℕ) (t u : Table) → f n ≡ Some t → g n ≡ Some u → t ≡ u

agree_now : (f g : ℕ → Option Table) (enters : Bool) (made : ℕ) (current t u : Table) → AgreeAt f g → table_at f enters made current ≡ Some t → table_at g enters made current ≡ Some u → t ≡ u
agree_now f g true made current t u agree first second = agree made t u first second
agree_now f g false made current t u agree first second = cc

-- from two states that are one on
abbrev SameFrom : Picture → (ℕ → Option Table) → (ℕ → Option Table) → ℕ → Type 0
SameFrom image f g k =
    (s : State) (since : Option ℕ) (transferred : Bool) (made : ℕ) (current : Table) (xs ys : List PatchedStep)
    → patched_from image f k s since transferred made current ≡ Some xs → patched_from image g k s since transferred made current ≡ Some ys → xs ≡ ys

by_tables : PatchedTurnFirst → (image : Picture) (f g : ℕ → Option Table) (k : ℕ) (s : State) (since : Option ℕ) (transferred : Bool) (made : ℕ) (current : Table) (xs ys : List PatchedStep) (o p : Option Table)
    → AgreeAt f g → SameFrom image f g k → table_at f (is_entry since transferred) made current ≡ o → table_at g (is_entry since transferred) made current ≡ p
    → patched_from image f (suc k) s since transferred made current ≡ Some xs → patched_from image g (suc k) s since transferred made current ≡ Some ys → xs ≡ ys
by_tables turn_first image f g k s since transferred made current xs ys None p agree same due also first second =
    let none = no_table image f k s since transferred made current due in absurd cc
by_tables turn_first image f g k s since transferred made current xs ys (Some t) None agree same due also first second =
    let none = no_table image g k s since transferred made current also in absurd cc
by_tables turn_first image f g k s since transferred made current xs ys (Some t) (Some u) agree same due also first second =
    let one : t ≡ u = agree_now f g (is_entry since transferred) made current t u agree due also in
    let enters = is_entry since transferred in
    let o = (patched_turn image t s).outcome in
    by_outcome (step_with image t s since transferred) o
    (λ (next : State) (transfer : Bool). patched_from image f k next (since_next enters since) transfer (if enters then made + 1 else made) t)
    (λ (next : State) (transfer : Bool). patched_from image g k next (since_next enters since) transfer (if enters then made + 1 else made) t)
    xs ys
    (λ next transfer zs ws. same next (since_next enters since) transfer (if enters then made + 1 else made) t zs ws)
    (sym (turn_first image f k s since transferred made current t o due refl) ∙ first)
    (sym (turn_first image g k s since transferred made current t o (also ∙ ap Some (sym one)) refl) ∙ second)

no_steps : (image : Picture) (f : ℕ → Option Table) (s : State) (since : Option ℕ) (transferred : Bool) (made : ℕ) (current : Table) (xs : List PatchedStep)
    → patched_from image f zero s since transferred made current ≡ Some xs → [] ≡ xs
unfolding patched_from
no_steps image f s since transferred made current xs is = cc

same_steps : PatchedTurnFirst → (image : Picture) (f g : ℕ → Option Table) (k : ℕ) → AgreeAt f g → SameFrom image f g k
same_steps turn_first image f g zero agree s since transferred made current xs ys first second =
    sym (no_steps image f s since transferred made current xs first) ∙ no_steps image g s since transferred made current ys second
same_steps turn_first image f g (suc k) agree s since transferred made current xs ys first second =
    by_tables turn_first image f g k s since transferred made current xs ys
    (table_at f (is_entry since transferred) made current) (table_at g (is_entry since transferred) made current)
    agree (same_steps turn_first image f g k agree) refl refl first second

-- ---- tables of versions

tables_agree : (versions : List Table) (vs ws : List ℕ) (ts us : List Table) (n : ℕ) (t u : Table) → AreTables versions vs ts → AreTables versions ws us → AgreeSoFar vs ws → slice_get ts n ≡ Some t → slice_get us n ≡ Some u → t ≡ u
tables_agree versions [] ws [] us n t u first second agree at also = absurd cc
tables_agree versions [] ws (a ∷ ts) us n t u first second agree at also = absurd first
tables_agree versions (v ∷ vs) ws [] us n t u first second agree at also = absurd first
tables_agree versions (v ∷ vs) [] (a ∷ ts) [] n t u first second agree at also = absurd cc
tables_agree versions (v ∷ vs) [] (a ∷ ts) (b ∷ us) n t u first second agree at also = absurd second
tables_agree versions (v ∷ vs) (w ∷ ws) (a ∷ ts) [] n t u first second agree at also = absurd second
tables_agree versions (v ∷ vs) (w ∷ ws) (a ∷ ts) (b ∷ us) zero t u first second agree at also =
    let same = agree.0 in
    let one = first.0 in
    let other = second.0 in
    let looked : slice_get versions v ≡ slice_get versions w = ap (slice_get versions) same in
    cc
tables_agree versions (v ∷ vs) (w ∷ ws) (a ∷ ts) (b ∷ us) (suc n) t u first second agree at also =
    tables_agree versions vs ws ts us n t u first.1 second.1 agree.1 at also

as_many : (versions : List Table) (vs : List ℕ) (ts : List Table) → AreTables versions vs ts → length vs ≡ length ts
as_many versions [] [] are = refl
as_many versions [] (t ∷ ts) are = absurd are
as_many versions (v ∷ vs) [] are = absurd are
as_many versions (v ∷ vs) (t ∷ ts) are = let rest = as_many versions vs ts are.1 in ap (λ (n : ℕ). suc n) rest

-- lists that agree as far as both go, and go equally far
same_versions : (vs ws : List ℕ) → AgreeSoFar vs ws → length vs ≡ length ws → vs ≡ ws
same_versions [] [] agree same = refl
same_versions [] (w ∷ ws) agree same = absurd (omega arith)
same_versions (v ∷ vs) [] agree same = absurd (omega arith)
same_versions (v ∷ vs) (w ∷ ws) agree same =
    let one = agree.0 in
    let rest : vs ≡ ws = same_versions vs ws agree.1 (omega arith) in
    cc

-- ---- entries

abbrev made_entry : ℕ → ℕ → Mode → List Adopted → End → ℕ → List ℕ → List ℕ → List TallyRow → List FiredRow → Entry
made_entry run worker mode adopted end turns sites output tally fired = record {
  run = run;
  worker = worker;
  mode = mode;
  adopted = adopted;
  end = end;
  turns = turns;
  sites = sites;
  output = output;
  tally = tally;
  fired = fired;
}

-- entries are equal where their fields are
fields_equal : (e o : Entry) → e.run ≡ o.run → e.worker ≡ o.worker → e.mode ≡ o.mode → e.adopted ≡ o.adopted → e.end ≡ o.end → e.turns ≡ o.turns → e.sites ≡ o.sites → e.output ≡ o.output → e.tally ≡ o.tally → e.fired ≡ o.fired → e ≡ o
fields_equal e o run worker mode adopted end turns sites output tally fired =
    let same : made_entry e.run e.worker e.mode e.adopted e.end e.turns e.sites e.output e.tally e.fired ≡ made_entry o.run o.worker o.mode o.adopted o.end o.turns o.sites o.output o.tally o.fired = cc in
    same

live_equal : PatchedTurnFirst → RowsAreJoined → UnderTables → (plan : PlanOf) (versions : List Table) (input : List ℕ) (e o : Entry) → IsLive plan versions input e → IsLive plan versions input o → e.run ≡ o.run → e.worker ≡ o.worker → e.mode ≡ o.mode → AgreeSoFar (written e.adopted) (written o.adopted) → e ≡ o
live_equal turn_first rows_are_joined under_tables plan versions input e o one other run worker mode agree =
    let ran = under_tables plan.image input plan.budget one.tables one.steps one.ran in
    let also = under_tables plan.image input plan.budget other.tables other.steps other.ran in
    let steps : one.steps ≡ other.steps =
    same_steps turn_first plan.image (slice_get one.tables) (slice_get other.tables) plan.budget
    (λ n t u. tables_agree versions (written e.adopted) (written o.adopted) one.tables other.tables n t u one.adopted other.adopted agree)
    (start_state plan.image input) None false 0 [] one.steps other.steps ran.0 also.0 in
    let many : length (written e.adopted) ≡ length (written o.adopted) =
    as_many versions (written e.adopted) one.tables one.adopted ∙ sym ran.1 ∙ ap entries_in steps ∙ also.1 ∙ sym (as_many versions (written o.adopted) other.tables other.adopted) in
    let rows : e.adopted ≡ o.adopted =
    sym (rows_are_joined e.adopted one.joined) ∙ ap (λ (vs : List ℕ). reverse (joined (reverse vs))) (same_versions (written e.adopted) (written o.adopted) agree many) ∙ rows_are_joined o.adopted other.joined in
    fields_equal e o run worker mode rows
    (one.tells.end ∙ ap (λ (steps : List PatchedStep). end_of (steps_of steps)) steps ∙ sym other.tells.end)
    (one.tells.turns ∙ ap (λ (steps : List PatchedStep). length (steps_of steps)) steps ∙ sym other.tells.turns)
    (one.tells.sites ∙ ap (λ (steps : List PatchedStep). sites_in (steps_of steps)) steps ∙ sym other.tells.sites)
    (one.tells.output ∙ ap (λ (steps : List PatchedStep). (state_left (start_state plan.image input) (steps_of steps)).output) steps ∙ sym other.tells.output)
    (one.tally ∙ ap (λ (steps : List PatchedStep). tally_of (checks_in (notes_of steps))) steps ∙ sym other.tally)
    (one.fired ∙ ap (λ (steps : List PatchedStep). fired_of (firings_in (notes_of steps))) steps ∙ sym other.fired)

learn_equal : (plan : PlanOf) (input : List ℕ) (e o : Entry) → IsLearn plan input e → IsLearn plan input o → e.run ≡ o.run → e.worker ≡ o.worker → e.mode ≡ o.mode → e ≡ o
learn_equal plan input e o one other run worker mode =
    fields_equal e o run worker mode (one.adopted ∙ sym other.adopted) (one.tells.end ∙ sym other.tells.end) (one.tells.turns ∙ sym other.tells.turns)
    (one.tells.sites ∙ sym other.tells.sites) (one.tells.output ∙ sym other.tells.output) (one.tally ∙ sym other.tally) (one.fired ∙ sym other.fired)

by_mode : PatchedTurnFirst → RowsAreJoined → UnderTables → (mode : Mode) (plan : PlanOf) (versions : List Table) (input : List ℕ) (e o : Entry) → IsOfMode mode plan versions input e → IsOfMode mode plan versions input o → e.run ≡ o.run → e.worker ≡ o.worker → e.mode ≡ o.mode → AgreeSoFar (written e.adopted) (written o.adopted) → e ≡ o
by_mode turn_first rows_are_joined under_tables Learn plan versions input e o one other run worker mode agree = learn_equal plan input e o one other run worker mode
by_mode turn_first rows_are_joined under_tables Live plan versions input e o one other run worker mode agree = live_equal turn_first rows_are_joined under_tables plan versions input e o one other run worker mode agree

pub one_honest_entry : PatchedTurnFirst → RowsAreJoined → UnderTables → OneHonestEntry
one_honest_entry turn_first rows_are_joined under_tables plan versions e o one other run worker agree =
    let found : run_at plan e.run ≡ run_at plan o.run = ap (run_at plan) run in
    let first = one.of_plan in
    let second = other.of_plan in
    let same : other.run ≡ one.run = cc in
    let modes : o.mode ≡ e.mode = other.mode ∙ ap (λ (r : Run). r.mode) same ∙ sym one.mode in
    by_mode turn_first rows_are_joined under_tables e.mode plan versions one.run.input e o one.as_it_ran
    (subst (λ (r : Run). IsOfMode e.mode plan versions r.input o) same (subst (λ (mode : Mode). IsOfMode mode plan versions other.run.input o) modes other.as_it_ran))
    run worker (sym modes) agree
