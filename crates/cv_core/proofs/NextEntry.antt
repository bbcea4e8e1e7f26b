-- The entry of the next run in order: of a learn run, and of a live run under the newest version.
use Rattle.std.proofs.Common.{◌≡◌, ◌≤◌, ◌+◌, ℕ, zero, suc, List, [], ◌∷◌, ◌++◌, replicate, Option, Some, None, refl, sym, ap, subst, arith}
use Rattle.std.specs.Prelude.{IsSomeAnd, option_map}
use Rattle.std.specs.List.{AllByRecursion}
use Rattle.cv_base.specs.declared.entries.Adopted.{Adopted}
use Rattle.cv_base.specs.declared.entries.Entry.{Entry}
use Rattle.cv_base.specs.declared.plan.Mode.{Mode}
use Rattle.cv_base.specs.declared.plan.Mode.TheVariants.{Learn, Live}
use Rattle.cv_base.specs.PlanOf.{PlanOf}
use Rattle.cv_exec.specs.LearnRun.{IsLearnRun, entry_by, entry_with, learn_steps, steps_with}
use Rattle.cv_histories.specs.Honest.{IsHonest, IsJoined, IsOfMode}
use Rattle.cv_histories.specs.Rows.{written}
use Rattle.cv_histories.specs.Runs.{Run, run_at}
use Rattle.cv_histories.specs.Seen.{observed_of}
use Rattle.cv_histories.specs.Versions.{newest}
use Rattle.cv_laws.specs.InOrder.{AreBelow, IsNext}
use Rattle.cv_laws.specs.Statements.{LearnEntryIsLearn}
use Rattle.cv_manager.specs.ManagerOf.{ManagerOf, ledger_in}
use Rattle.cv_observe.specs.StandsFor.{StandsFor, SummaryOf}
use Rattle.cv_runs.specs.Learned.{observations}
use Rattle.cv_core.specs.NewestOf.{NewestOf}

-- one more of them, below the next number
pub one_more : (k : ℕ) (past : List Entry) (e : Entry) → e.run ≡ k → AreBelow k past → AreBelow (k + 1) (e ∷ past)
one_more k past e is are = (ap (λ (n : ℕ). n + 1) (sym is), rw is are)

-- ---- learn runs

-- by what a plan has at a number
learn_next : LearnEntryIsLearn → (plan : PlanOf) (past : List Entry) (k : ℕ) (o : Option Run) (e : Entry) → run_at plan k ≡ o → IsSomeAnd o (λ (r : Run). r.mode ≡ Learn) → option_map (entry_with plan k 0) o ≡ Some e → IsNext plan past k e
learn_next learn_ran plan past k None e at learns is = absurd learns
learn_next learn_ran plan past k (Some r) e at learns is =
    let same : entry_with plan k 0 r ≡ e = cc in
    subst (λ (o : Entry). IsNext plan past k o) same
    (record { run = refl; worker = refl; newest_alone = tt; honest = record { run = r; of_plan = at; mode = sym learns; as_it_ran = learn_ran plan k r } })

-- as the call of a learn run says it
pub learn_is_next : LearnEntryIsLearn → (m : ManagerOf) (k : ℕ) (e : Entry) → IsLearnRun m.plan k → entry_by m.plan k 0 ≡ Some e → IsNext m.plan m.past k e
learn_is_next learn_ran m k e learns is = learn_next learn_ran m.plan m.past k (run_at m.plan k) e refl learns is

-- what was seen in it
learn_seen : (plan : PlanOf) (o : Option Run) → observations (steps_with plan o) ≡ observed_of plan o
learn_seen plan None = refl
learn_seen plan (Some r) = refl

pub learn_is_seen : (m : ManagerOf) (k : ℕ) (s : SummaryOf) → StandsFor s (observations (learn_steps m.plan k)) → StandsFor s (observed_of m.plan (run_at m.plan k))
learn_is_seen m k s seen = rw (← learn_seen m.plan (run_at m.plan k)) seen

-- ---- live runs

-- the first row of some that are written out, and the others
first_row : (P : ℕ → Type 0) (n v : ℕ) (rest : List ℕ) → 1 ≤ n → AllByRecursion P (replicate n v ++ rest) → P v × AllByRecursion P rest
first_row P zero v rest some all = absurd (omega arith)
first_row P (suc zero) v rest some all = all
first_row P (suc (suc n)) v rest some all = first_row P (suc n) v rest (omega arith) all.1

-- what holds of each version that is written out holds of each row's
rows_all : (P : ℕ → Type 0) (rows : List Adopted) → IsJoined rows → AllByRecursion P (written rows) → AllByRecursion (λ (a : Adopted). P a.version) rows
rows_all P [] joined all = tt
rows_all P (a ∷ []) joined all = ((first_row P a.entries a.version [] joined all).0, tt)
rows_all P (a ∷ b ∷ rest) joined all =
    let first = first_row P a.entries a.version (written (b ∷ rest)) joined.0 all in
    (first.0, rows_all P (b ∷ rest) joined.2 first.1)

-- under the versions of a history, where each block entry adopted the newest one
pub live_is_next : (m : ManagerOf) (k : ℕ) (n : NewestOf) (e : Entry) → n.newest ≡ newest m.plan m.past → n.tables ≡ (ledger_in m).versions → e.run ≡ k → e.worker ≡ 0 → e.mode ≡ Live
    → IsHonest m.plan n.tables e → AllByRecursion (λ (v : ℕ). v ≡ n.newest) (written e.adopted) → IsNext m.plan m.past k e
live_is_next m k n e newest_is tables_are run worker lives honest all =
    let ran = subst (λ (mode : Mode). IsOfMode mode m.plan n.tables honest.run.input e) lives honest.as_it_ran in
    record {
      run = run;
      worker = worker;
      newest_alone = rows_all (λ (v : ℕ). v ≡ newest m.plan m.past) e.adopted ran.joined (rw newest_is at all);
      honest = rw tables_are at honest;
    }
