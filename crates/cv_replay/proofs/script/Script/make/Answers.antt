use Rattle.std.proofs.Common.{◌≤◌, ap, subst}
use Rattle.std.specs.Prelude.{map}
use Rattle.cv_base.specs.declared.entries.Entry.{Entry}
use Rattle.cv_base.specs.PlanOf.{PlanOf}
use Rattle.cv_replay.proofs.HonestRows.{honest_script}
use Rattle.cv_replay.specs.Script.{ScriptOf}
use Rattle.cv_replay.proofs.script.Script.make.Goals as goal

pub returns-clause-goes_by : goal.returns-clause-goes_by
returns-clause-goes_by c =
    let made = λ (e : Entry). let s : ScriptOf = record { entry = e; versions = map (λ t. t.value) c.args.tables.items } in s in
    honest_script c.honest_is_flown.ensures c.args.plan.now (map (λ t. t.value) c.args.tables.items) c.args.entry.now (made c.in_ok-entry.entry)
    (subst (λ (p : PlanOf). 1 ≤ p.budget) c.plan.view_is c.plan.invariant.some_budget) c.requires.honest c.requires.rises (ap made c.in_ok-entry.ensures)
