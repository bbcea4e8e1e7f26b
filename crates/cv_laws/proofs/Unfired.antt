-- An entry in which no repair fired says what the plain run did.
use Rattle.std.proofs.Common.{◌≡◌, ◌∙◌, ℕ, List, [], ◌∷◌, sym, subst}
use Rattle.std.specs.Prelude.{IfSome, Option}
use Rattle.cv_base.specs.declared.entries.Entry.{Entry}
use Rattle.cv_base.specs.declared.plan.Mode.{Mode}
use Rattle.cv_base.specs.declared.plan.Mode.TheVariants.{Learn, Live}
use Rattle.cv_base.specs.PlanOf.{PlanOf}
use Rattle.cv_histories.specs.Honest.{IsHonest, IsOfMode, Tells}
use Rattle.cv_histories.specs.Runs.{Run}
use Rattle.cv_histories.specs.Versions.{ledger}
use Rattle.cv_laws.proofs.NoFirings.{no_firings}
use Rattle.cv_laws.proofs.UnfiredSteps.{plain_steps}
use Rattle.cv_laws.specs.Statements.{LegalIsPlain, UnfiredIsPlain}
use Rattle.cv_runs.specs.PatchedRun.{Table}
use Rattle.cv_runs.specs.PlainRun.{plain_run}

-- a learn entry says so, and a live one where no repair fired
told : (mode : Mode) (plan : PlanOf) (versions : List Table) (input : List ℕ) (e : Entry) → IsOfMode mode plan versions input e → e.fired ≡ [] → Tells plan input (plain_run plan.image input plan.budget) e
told Learn plan versions input e ran none = ran.tells
told Live plan versions input e live none =
    rw (plain_steps plan.image input plan.budget live.tables live.steps live.ran (no_firings _ (sym live.fired ∙ none))) at live.tells

pub unfired_is_plain : UnfiredIsPlain
unfired_is_plain plan versions e honest none =
    subst (λ (run : Option Run). IfSome run (λ (r : Run). Tells plan r.input (plain_run plan.image r.input plan.budget) e)) (sym honest.of_plan)
    (told e.mode plan versions honest.run.input e honest.as_it_ran none)

pub legal_is_plain : LegalIsPlain
legal_is_plain plan [] legal = tt
legal_is_plain plan (e ∷ past) legal =
    (unfired_is_plain plan (ledger plan past).versions e legal.0.honest, legal_is_plain plan past legal.1)
