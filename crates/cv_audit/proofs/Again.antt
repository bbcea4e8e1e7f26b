-- What running an entry again says of it.
use Rattle.std.proofs.Common.{◌≡◌, ℕ, List, [], ◌∷◌, ◌++◌, Option, Some, None, refl, sym, ap, ◌∙◌, subst}
use Rattle.std.specs.Prelude.{IsSomeAnd, option_map}
use Rattle.cv_base.specs.declared.entries.Adopted.{Adopted}
use Rattle.cv_base.specs.declared.entries.Entry.{Entry}
use Rattle.cv_base.specs.declared.plan.Mode.{Mode}
use Rattle.cv_base.specs.declared.plan.Mode.TheVariants.{Live}
use Rattle.cv_base.specs.PlanOf.{PlanOf}
use Rattle.cv_exec.specs.LearnRun.{entry_by, entry_with}
use Rattle.cv_exec.specs.LiveRun.{HaveTables, IsLiveRun, Span}
use Rattle.cv_exec.specs.RecordOf.{IsHonestUnder}
use Rattle.cv_histories.specs.Honest.{IsHonest, IsJoined, IsOfMode}
use Rattle.cv_histories.specs.Rows.{written}
use Rattle.cv_histories.specs.Runs.{Run, run_at}
use Rattle.cv_runs.specs.PatchedRun.{Table}
use Rattle.cv_audit.specs.Clauses.{IsOfPlan}
use Rattle.cv_audit.specs.Rerun.{IsNotHonest}
use Rattle.cv_audit.specs.Scripted.{AreCounted, Follows, HasFollowed, ScriptOf, Scripted, left_of}
use Rattle.cv_audit.specs.Statements.{AgreeSoFar, OneHonestEntry}
use Rattle.cv_audit.proofs.Scripts.{follows_agree, none_used}

-- an entry is not honest where the honest entry that agrees with its versions is another one
pub other_honest : OneHonestEntry → (plan : PlanOf) (versions : List Table) (e ran : Entry) → IsHonest plan versions ran → ran.run ≡ e.run → ran.worker ≡ e.worker → AgreeSoFar (written e.adopted) (written ran.adopted)
    → (ran ≡ e → ⊥) → IsNotHonest plan versions e
other_honest one plan versions e ran honest run worker agree other its =
    other (sym (one plan versions e ran its honest (sym run) (sym worker) agree))

-- ---- learn runs

agree_none : (vs : List ℕ) → AgreeSoFar vs []
agree_none [] = tt
agree_none (v ∷ vs) = tt

record IsLearned (number worker : ℕ) (e : Entry) : Type 0 where
  run_is : e.run ≡ number
  worker_is : e.worker ≡ worker
  none : e.adopted ≡ []

learned_with : (plan : PlanOf) (number worker : ℕ) (o : Option Run) (e : Entry) → option_map (entry_with plan number worker) o ≡ Some e → IsLearned number worker e
learned_with plan number worker None e is = absurd cc
learned_with plan number worker (Some r) e is =
    let same : entry_with plan number worker r ≡ e = cc in
    subst (IsLearned number worker) same (record { run_is = refl; worker_is = refl; none = refl })

-- the tables of no versions
no_tables : (versions : List Table) (adopted : List Span) → adopted ≡ [] → HaveTables versions adopted
no_tables versions adopted none = subst (HaveTables versions) (sym none) tt

pub learned_honest : (plan : PlanOf) (versions : List Table) (adopted : List Span) (of : PlanOf) (ran : Entry) → of ≡ plan → adopted ≡ [] → IsHonestUnder of adopted ran → IsHonest plan versions ran
learned_honest plan versions adopted of ran same none honest =
    subst (λ (p : PlanOf). IsHonest p versions ran) same (honest versions (no_tables versions adopted none))

pub learned_other : OneHonestEntry → (plan : PlanOf) (versions : List Table) (e ran : Entry) → entry_by plan e.run e.worker ≡ Some ran → IsHonest plan versions ran → (ran ≡ e → ⊥) → IsNotHonest plan versions e
learned_other one plan versions e ran is honest other =
    let learned = learned_with plan e.run e.worker (run_at plan e.run) ran is in
    other_honest one plan versions e ran honest learned.run_is learned.worker_is
    (subst (λ (rows : List Adopted). AgreeSoFar (written e.adopted) (written rows)) (sym learned.none) (agree_none (written e.adopted))) other

-- ---- live runs

-- the answers to a script agree with it
pub answers_agree : (rows : List Adopted) (start now : Scripted) (tables : List Table) (answered : List ℕ) → start ≡ record { script = record { tables = tables; rows = rows }; rest = rows; used = 0; last = 0 } → now.script ≡ start.script
    → ((before : List ℕ) → HasFollowed start before → HasFollowed now (before ++ answered)) → AgreeSoFar (written rows) answered
answers_agree rows start now tables answered is origin answers =
    let begins : HasFollowed start [] = subst (λ (s : Scripted). HasFollowed s []) (sym is) (none_used rows) in
    let script : written now.script.rows ≡ written rows = ap (λ (s : ScriptOf). written s.rows) (origin ∙ ap (λ (s : Scripted). s.script) is) in
    follows_agree (written rows) answered (left_of now.rest now.used)
    (subst (λ (vs : List ℕ). Follows vs answered (left_of now.rest now.used)) script (answers [] begins))

mode_with : (o : Option Run) (mode : Mode) → IsSomeAnd o (λ (r : Run). r.mode ≡ Live) → IsSomeAnd o (λ (r : Run). mode ≡ r.mode) → mode ≡ Live
mode_with None mode lives of_plan = absurd lives
mode_with (Some r) mode lives of_plan = of_plan ∙ lives

-- the mode of an entry of a live run
pub live_mode : (plan : PlanOf) (e : Entry) → IsLiveRun plan e.run → IsOfPlan plan e → e.mode ≡ Live
live_mode plan e lives of_plan = mode_with (run_at plan e.run) e.mode lives of_plan

-- an honest entry of a live run has joined rows
pub not_joined : (plan : PlanOf) (versions : List Table) (e : Entry) → IsLiveRun plan e.run → IsOfPlan plan e → (IsJoined e.adopted → ⊥) → IsNotHonest plan versions e
not_joined plan versions e lives of_plan apart honest =
    let ran = subst (λ (mode : Mode). IsOfMode mode plan versions honest.run.input e) (live_mode plan e lives of_plan) honest.as_it_ran in
    apart ran.joined

-- joined rows count something
pub joined_counted : (rows : List Adopted) → IsJoined rows → AreCounted rows
joined_counted [] joined = tt
joined_counted (a ∷ []) joined = (joined, tt)
joined_counted (a ∷ b ∷ rest) joined = (joined.0, joined_counted (b ∷ rest) joined.2)

pub live_other : OneHonestEntry → (plan : PlanOf) (versions tables : List Table) (e ran : Entry) → tables ≡ versions → IsHonest plan tables ran → ran.run ≡ e.run → ran.worker ≡ e.worker → AgreeSoFar (written e.adopted) (written ran.adopted)
    → (ran ≡ e → ⊥) → IsNotHonest plan versions e
live_other one plan versions tables e ran same honest = other_honest one plan versions e ran (subst (λ (ts : List Table). IsHonest plan ts ran) same honest)
