-- The entry that the serial history has next: it says what its run did, and it is the only entry
-- that does so by worker 0 under the newest version.
use Rattle.std.proofs.Common.{◌≡◌, ◌≤◌, ◌-◌, ◌∙◌, ℕ, List, [], ◌∷◌, ◌++◌, length, replicate, Some, refl, sym, ap, subst}
use Rattle.std.proofs.lemmas.List.{append-nil, length-map}
use Rattle.std.specs.Prelude.{slice_get, unwrap_or}
use Rattle.std.specs.List.{AllByRecursion}
use Rattle.cv_base.specs.declared.entries.Adopted.{Adopted}
use Rattle.cv_base.specs.declared.entries.Entry.{Entry}
use Rattle.cv_base.specs.declared.plan.Mode.{Mode}
use Rattle.cv_base.specs.declared.plan.Mode.TheVariants.{Learn, Live}
use Rattle.cv_base.specs.PlanOf.{PlanOf}
use Rattle.cv_histories.specs.Honest.{AreTables, IsLearn, IsLive, IsOfMode, Tells}
use Rattle.cv_histories.specs.Rows.{checks_in, fired_of, firings_in, tally_of, written}
use Rattle.cv_histories.specs.Runs.{Run, run_at}
use Rattle.cv_histories.specs.Serial.{entry_of_mode, learn_entry, live_entry, next_entry}
use Rattle.cv_histories.specs.Versions.{Ledger, ledger, newest_of}
use Rattle.cv_runs.specs.PatchedRun.{PatchedStep, Table, entries_in, notes_of, run_under, steps_of}
use Rattle.cv_runs.specs.PlainRun.{plain_run}
use Rattle.cv_laws.specs.InOrder.{IsNext}
use Rattle.cv_laws.proofs.OneRow.{all_tables, all_written, count_tables, one_row, row_tables}
use Rattle.cv_laws.proofs.OneTable.{RunsUnder, copies_under, runs_under}
use Rattle.cv_laws.proofs.VersionTables.{newest_there, some_version}
use Rattle.cv_laws.specs.Statements.{LearnEntryIsLearn}

-- ---- it says what its run did

-- of a learn run
pub learn_ran : LearnEntryIsLearn
learn_ran plan k r = record { adopted = refl; tells = record { end = refl; turns = refl; output = refl; sites = refl }; tally = refl; fired = refl }

-- of a live run under the table of a version
live_ran : (plan : PlanOf) (versions : List Table) (k v : ℕ) (r : Run) (t : Table) → slice_get versions v ≡ Some t → (runs : RunsUnder plan.image r.input plan.budget t) → IsLive plan versions r.input (live_entry plan k r v runs.steps)
live_ran plan versions k v r t at runs = record {
  tables = replicate (entries_in runs.steps) t;
  steps = runs.steps;
  joined = runs.some;
  adopted = subst (AreTables versions (replicate (entries_in runs.steps) v ++ [])) (append-nil (replicate (entries_in runs.steps) t)) (row_tables versions v t (entries_in runs.steps) [] [] at tt);
  ran = runs.ran;
  tells = record { end = refl; turns = simp length-map; output = refl; sites = refl };
  tally = refl;
  fired = refl;
}

-- by mode
ran_in : (mode : Mode) (plan : PlanOf) (l : Ledger) (k : ℕ) (r : Run) → 1 ≤ plan.budget → 1 ≤ length l.versions → IsOfMode mode plan l.versions r.input (entry_of_mode mode plan l k r)
ran_in Learn plan l k r some versions = learn_ran plan k r
ran_in Live plan l k r some versions =
    let t = newest_of l.versions in
    let runs = runs_under plan.image r.input plan.budget t some in
    subst (λ (steps : List PatchedStep). IsLive plan l.versions r.input (live_entry plan k r (length l.versions - 1) steps))
    (ap (λ o. unwrap_or o []) (sym runs.under))
    (live_ran plan l.versions k (length l.versions - 1) r t (newest_there l.versions versions) runs)

-- ---- it is next

-- it has the mode and the number of the run
mode_in : (mode : Mode) (plan : PlanOf) (l : Ledger) (k : ℕ) (r : Run) → (entry_of_mode mode plan l k r).mode ≡ mode
mode_in Learn plan l k r = refl
mode_in Live plan l k r = refl

run_in : (mode : Mode) (plan : PlanOf) (l : Ledger) (k : ℕ) (r : Run) → (entry_of_mode mode plan l k r).run ≡ k
run_in Learn plan l k r = refl
run_in Live plan l k r = refl

-- it is by worker 0, and adopted the newest version alone
worker_in : (mode : Mode) (plan : PlanOf) (l : Ledger) (k : ℕ) (r : Run) → (entry_of_mode mode plan l k r).worker ≡ 0
worker_in Learn plan l k r = refl
worker_in Live plan l k r = refl

newest_in : (mode : Mode) (plan : PlanOf) (l : Ledger) (k : ℕ) (r : Run) → AllByRecursion (λ (a : Adopted). a.version ≡ length l.versions - 1) (entry_of_mode mode plan l k r).adopted
newest_in Learn plan l k r = tt
newest_in Live plan l k r = (refl, tt)

-- after a history
pub next_is : (plan : PlanOf) (past : List Entry) (k : ℕ) (r : Run) → 1 ≤ plan.budget → run_at plan k ≡ Some r → IsNext plan past k (next_entry plan (ledger plan past) k r)
next_is plan past k r some at =
    let l = ledger plan past in
    let mode = mode_in r.mode plan l k r in
    let run = run_in r.mode plan l k r in
    record {
      run = run;
      worker = worker_in r.mode plan l k r;
      newest_alone = newest_in r.mode plan l k r;
      honest = record {
        run = r;
        of_plan = ap (run_at plan) run ∙ at;
        mode = mode;
        as_it_ran = subst (λ (m : Mode). IsOfMode m plan l.versions r.input (next_entry plan l k r)) (sym mode) (ran_in r.mode plan l k r some (some_version plan past));
      };
    }

-- ---- no other entry says so

-- of a learn run
same_learn : (plan : PlanOf) (r : Run) (e : Entry) → e.worker ≡ 0 → e.mode ≡ Learn → IsLearn plan r.input e → e ≡ learn_entry plan e.run r (plain_run plan.image r.input plan.budget)
same_learn plan r e worker mode ran =
    let adopted = ran.adopted in
    let end = ran.tells.end in
    let turns = ran.tells.turns in
    let output = ran.tells.output in
    let sites = ran.tells.sites in
    let tally = ran.tally in
    let fired = ran.fired in
    let fields : record { run = e.run; worker = e.worker; mode = e.mode; adopted = e.adopted; end = e.end; turns = e.turns; sites = e.sites; output = e.output; tally = e.tally; fired = e.fired } ≡ learn_entry plan e.run r (plain_run plan.image r.input plan.budget) = cc in
    fields

-- of a live run, from its fields
live_as : (plan : PlanOf) (r : Run) (e : Entry) (v : ℕ) (steps : List PatchedStep) → e.worker ≡ 0 → e.mode ≡ Live → e.adopted ≡ record { version = v; entries = entries_in steps } ∷ []
    → Tells plan r.input (steps_of steps) e → e.tally ≡ tally_of (checks_in (notes_of steps)) → e.fired ≡ fired_of (firings_in (notes_of steps)) → e ≡ live_entry plan e.run r v steps
live_as plan r e v steps worker mode adopted tells tally fired =
    let end = tells.end in
    let turns : e.turns ≡ length steps = tells.turns ∙ simp length-map in
    let output = tells.output in
    let sites = tells.sites in
    let fields : record { run = e.run; worker = e.worker; mode = e.mode; adopted = e.adopted; end = e.end; turns = e.turns; sites = e.sites; output = e.output; tally = e.tally; fired = e.fired } ≡ live_entry plan e.run r v steps = cc in
    fields

-- of a live run whose block entries all adopted version v
same_live : (plan : PlanOf) (versions : List Table) (r : Run) (e : Entry) (v : ℕ) (t : Table) → 1 ≤ plan.budget → slice_get versions v ≡ Some t → e.worker ≡ 0 → e.mode ≡ Live → AllByRecursion (λ (a : Adopted). a.version ≡ v) e.adopted → IsLive plan versions r.input e
    → e ≡ live_entry plan e.run r v (unwrap_or (run_under plan.image r.input plan.budget t) [])
same_live plan versions r e v t some at worker mode all ran =
    let copies = all_tables versions v t at (written e.adopted) ran.tables ran.adopted (all_written v e.adopted all) in
    let is = copies_under plan.image r.input plan.budget t ran.tables ran.steps some copies ran.ran in
    let count : length (written e.adopted) ≡ entries_in ran.steps = sym (is.count ∙ count_tables versions (written e.adopted) ran.tables ran.adopted) in
    let adopted = one_row v (entries_in ran.steps) e.adopted ran.joined all count is.some in
    live_as plan r e v ran.steps worker mode adopted ran.tells ran.tally ran.fired
    ∙ ap (λ o. live_entry plan e.run r v (unwrap_or o [])) (sym is.under)

-- by mode
same_in : (mode : Mode) (plan : PlanOf) (l : Ledger) (r : Run) (e : Entry) → 1 ≤ plan.budget → 1 ≤ length l.versions → e.worker ≡ 0 → e.mode ≡ mode → AllByRecursion (λ (a : Adopted). a.version ≡ length l.versions - 1) e.adopted
    → IsOfMode mode plan l.versions r.input e → e ≡ entry_of_mode mode plan l e.run r
same_in Learn plan l r e some versions worker mode all ran = same_learn plan r e worker mode ran
same_in Live plan l r e some versions worker mode all ran =
    same_live plan l.versions r e (length l.versions - 1) (newest_of l.versions) some (newest_there l.versions versions) worker mode all ran

-- an entry that is next is this one
pub next_is_serial : (plan : PlanOf) (past : List Entry) (k : ℕ) (e : Entry) → 1 ≤ plan.budget → (next : IsNext plan past k e) → e ≡ next_entry plan (ledger plan past) e.run next.honest.run
next_is_serial plan past k e some next =
    let l = ledger plan past in
    let honest = next.honest in
    let r = honest.run in
    same_in r.mode plan l r e some (some_version plan past) next.worker honest.mode next.newest_alone (subst (λ (m : Mode). IsOfMode m plan l.versions r.input e) honest.mode honest.as_it_ran)
