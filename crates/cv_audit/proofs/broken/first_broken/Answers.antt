use Rattle.std.proofs.Common.{◌≡◌, ℕ, List, reverse, sym, subst}
use Rattle.cv_base.specs.declared.entries.Adopted.{Adopted}
use Rattle.cv_histories.specs.Legal.{NeverFalls}
use Rattle.cv_histories.specs.Runs.{Run, run_at}
use Rattle.cv_audit.specs.Clauses.{AreAtMost}
use Rattle.cv_audit.proofs.BreaksFirst.{floors_fail, of_plan_fails, order_fails, own_run_fails, refused, rounds_fail, runs_fail, some_run, versions_fail}
use Rattle.cv_audit.proofs.broken.first_broken.Goals as goal

exist : {rows adopted : List Adopted} {top newest : ℕ} → rows ≡ adopted → top ≡ newest → AreAtMost top rows → AreAtMost newest adopted
exist {rows} {adopted} {top} {newest} same is all = subst (λ (n : ℕ). AreAtMost n adopted) is (subst (AreAtMost top) same all)

lacks : {rows adopted : List Adopted} {top newest : ℕ} → rows ≡ adopted → top ≡ newest → AreAtMost newest adopted → AreAtMost top rows
lacks same is all = exist (sym same) (sym is) all

pub are_rounds_done-requires : goal.are_rounds_done-requires
are_rounds_done-requires c =
    some_run (run_at c.args.plan.now c.args.entry.now.run) (λ (run : Run). c.args.entry.now.mode ≡ run.mode) (c.is_of_plan.ensures.0 c.if-not-is_of_plan.false)

pub returns-then-not-is_own_run-clause-broken : goal.returns-then-not-is_own_run-clause-broken
returns-then-not-is_own_run-clause-broken c =
    own_run_fails c.args.plan.now (reverse c.args.history.now) c.args.entry.now
    (refused c.is_own_run.result c.if-not-is_own_run.true c.is_own_run.ensures)

pub returns-then-not-is_of_plan-clause-broken : goal.returns-then-not-is_of_plan-clause-broken
returns-then-not-is_of_plan-clause-broken c =
    of_plan_fails c.args.plan.now (reverse c.args.history.now) c.args.entry.now (c.is_own_run.ensures.0 c.if-not-is_own_run.false)
    (refused c.is_of_plan.result c.if-not-is_of_plan.true c.is_of_plan.ensures)

pub returns-then-not-are_rounds_done-clause-broken : goal.returns-then-not-are_rounds_done-clause-broken
returns-then-not-are_rounds_done-clause-broken c =
    rounds_fail c.args.plan.now (reverse c.args.history.now) c.args.entry.now (c.is_own_run.ensures.0 c.if-not-is_own_run.false) (c.is_of_plan.ensures.0 c.if-not-is_of_plan.false)
    (refused c.are_rounds_done.result c.if-not-are_rounds_done.true c.are_rounds_done.ensures)

pub returns-then-not-do_runs_rise-clause-broken : goal.returns-then-not-do_runs_rise-clause-broken
returns-then-not-do_runs_rise-clause-broken c =
    runs_fail c.args.plan.now (reverse c.args.history.now) c.args.entry.now (c.is_own_run.ensures.0 c.if-not-is_own_run.false) (c.is_of_plan.ensures.0 c.if-not-is_of_plan.false) (c.are_rounds_done.ensures.0 c.if-not-are_rounds_done.false)
    (refused c.do_runs_rise.result c.if-not-do_runs_rise.true c.do_runs_rise.ensures)

pub returns-then-not-are_at_most-clause-broken : goal.returns-then-not-are_at_most-clause-broken
returns-then-not-are_at_most-clause-broken c =
    versions_fail c.args.plan.now (reverse c.args.history.now) c.args.entry.now (c.is_own_run.ensures.0 c.if-not-is_own_run.false) (c.is_of_plan.ensures.0 c.if-not-is_of_plan.false) (c.are_rounds_done.ensures.0 c.if-not-are_rounds_done.false) (c.do_runs_rise.ensures.0 c.if-not-do_runs_rise.false)
    (λ all. refused c.are_at_most.result c.if-not-are_at_most.true c.are_at_most.ensures (lacks c.as_slice-rows.ensures c.requires.newest all))

pub returns-then-not-never_fall-clause-broken : goal.returns-then-not-never_fall-clause-broken
returns-then-not-never_fall-clause-broken c =
    order_fails c.args.plan.now (reverse c.args.history.now) c.args.entry.now (c.is_own_run.ensures.0 c.if-not-is_own_run.false) (c.is_of_plan.ensures.0 c.if-not-is_of_plan.false) (c.are_rounds_done.ensures.0 c.if-not-are_rounds_done.false) (c.do_runs_rise.ensures.0 c.if-not-do_runs_rise.false) (exist c.as_slice-rows.ensures c.requires.newest (c.are_at_most.ensures.0 c.if-not-are_at_most.false))
    (λ never. refused c.never_fall.result c.if-not-never_fall.true c.never_fall.ensures (subst NeverFalls (sym c.as_slice-rows.ensures) never))

pub returns-then-not-are_above_floors-clause-broken : goal.returns-then-not-are_above_floors-clause-broken
returns-then-not-are_above_floors-clause-broken c =
    floors_fail c.args.plan.now (reverse c.args.history.now) c.args.entry.now (c.is_own_run.ensures.0 c.if-not-is_own_run.false) (c.is_of_plan.ensures.0 c.if-not-is_of_plan.false) (c.are_rounds_done.ensures.0 c.if-not-are_rounds_done.false) (c.do_runs_rise.ensures.0 c.if-not-do_runs_rise.false) (exist c.as_slice-rows.ensures c.requires.newest (c.are_at_most.ensures.0 c.if-not-are_at_most.false)) (subst NeverFalls c.as_slice-rows.ensures (c.never_fall.ensures.0 c.if-not-never_fall.false))
    (refused c.are_above_floors.result c.if-not-are_above_floors.true c.are_above_floors.ensures)

pub returns-clause-none : goal.returns-clause-none
returns-clause-none c = λ none.
    ((c.is_own_run.ensures.0 c.if-not-is_own_run.false), ((c.is_of_plan.ensures.0 c.if-not-is_of_plan.false), ((c.are_rounds_done.ensures.0 c.if-not-are_rounds_done.false), ((c.do_runs_rise.ensures.0 c.if-not-do_runs_rise.false), ((exist c.as_slice-rows.ensures c.requires.newest (c.are_at_most.ensures.0 c.if-not-are_at_most.false)), ((subst NeverFalls c.as_slice-rows.ensures (c.never_fall.ensures.0 c.if-not-never_fall.false)), ((c.are_above_floors.ensures.0 c.if-not-are_above_floors.false), tt)))))))
