-- Each entry of a legal history is honest under the versions of the whole history.
use Rattle.std.proofs.Common.{◌≡◌, ℕ, List, [], ◌∷◌, Some}
use Rattle.std.specs.Prelude.{slice_get}
use Rattle.std.specs.List.{AllByRecursion}
use Rattle.cv_base.specs.declared.entries.Entry.{Entry}
use Rattle.cv_base.specs.declared.plan.Mode.{Mode}
use Rattle.cv_base.specs.declared.plan.Mode.TheVariants.{Learn, Live}
use Rattle.cv_base.specs.PlanOf.{PlanOf}
use Rattle.cv_histories.specs.Honest.{IsHonest, IsOfMode}
use Rattle.cv_histories.specs.Legal.{IsLegal}
use Rattle.cv_histories.specs.Rows.{written}
use Rattle.cv_histories.specs.Versions.{ledger}
use Rattle.cv_laws.specs.Statements.{IsHonestIn, LegalIsHonest}
use Rattle.cv_laws.proofs.Flights.{adopted_grown}
use Rattle.cv_laws.proofs.VersionTables.{tables_stay}
use Rattle.cv_runs.specs.PatchedRun.{Table}

-- under more versions, behind those under which it ran
mode_grown : (mode : Mode) (plan : PlanOf) (versions more : List Table) (input : List ℕ) (e : Entry) → ((v : ℕ) (t : Table) → slice_get versions v ≡ Some t → slice_get more v ≡ Some t) → IsOfMode mode plan versions input e → IsOfMode mode plan more input e
mode_grown Learn plan versions more input e stay ran = ran
mode_grown Live plan versions more input e stay ran = record {
  tables = ran.tables;
  steps = ran.steps;
  joined = ran.joined;
  adopted = adopted_grown versions more (written e.adopted) ran.tables stay ran.adopted;
  ran = ran.ran;
  tells = ran.tells;
  tally = ran.tally;
  fired = ran.fired;
}

-- with one more entry
grown : (plan : PlanOf) (past : List Entry) (newest e : Entry) → IsHonest plan (ledger plan past).versions e → IsHonest plan (ledger plan (newest ∷ past)).versions e
grown plan past newest e honest = record {
  run = honest.run;
  of_plan = honest.of_plan;
  mode = honest.mode;
  as_it_ran = mode_grown e.mode plan (ledger plan past).versions (ledger plan (newest ∷ past)).versions honest.run.input e (tables_stay plan past newest) honest.as_it_ran;
}

later : (plan : PlanOf) (past : List Entry) (newest : Entry) (entries : List Entry) → AllByRecursion (IsHonestIn plan past) entries → AllByRecursion (IsHonestIn plan (newest ∷ past)) entries
later plan past newest [] all = tt
later plan past newest (e ∷ entries) all =
    (record { honest = grown plan past newest e all.0.honest; worker = all.0.worker; never_falls = all.0.never_falls }, later plan past newest entries all.1)

pub legal_is_honest : LegalIsHonest
legal_is_honest plan [] legal = tt
legal_is_honest plan (e ∷ past) legal =
    let may = legal.0 in
    (record { honest = grown plan past e e may.honest; worker = may.worker; never_falls = may.never_falls }, later plan past e past (legal_is_honest plan past legal.1))
