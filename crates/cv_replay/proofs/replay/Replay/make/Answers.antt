use Rattle.std.proofs.Common.{◌≡◌, ℕ, ap, sym, subst, ◌∙◌}
use Rattle.std.specs.List.{AllByRecursion}
use Rattle.cv_base.specs.PlanOf.{PlanOf}
use Rattle.cv_replay.specs.Changed.{AreSince}
use Rattle.cv_replay.specs.Script.{IsScript, steps_by_script}
use Rattle.cv_replay.specs.Standing.{IsAt, IsWalk, plan_of, turn_of}
use Rattle.cv_replay.specs.declared.stand.Stand.{Stand}
use Rattle.cv_replay.specs.declared.walk.Walk.{Walk}
use Rattle.cv_replay.proofs.replay.Replay.make.Goals as goal

pub invariant_of-result : goal.invariant_of-result
invariant_of-result c =
    let script = c.in_ok-script.script in
    let here = c.make-here.result in
    let told = c.in_ok-make.ensures in
    let same = c.make-here.ensures.stand in
    let plan : plan_of here ≡ c.args.plan.now = ap (λ (s : Stand). s.flight.plan) same ∙ told.plan in
    let turn : turn_of here.stand ≡ 0 = ap turn_of same ∙ told.turn in
    let at : IsWalk script here = record {
      at = subst (IsAt script) (sym same) told.at;
      since = subst (λ (n : ℕ). AreSince (steps_by_script (plan_of here) script) n here.changes.cells) (sym turn) (c.make-here.ensures.since (steps_by_script (plan_of here) script));
    } in
    let first : c.make-copies.result.first ≡ here = c.make-copies.ensures.first ∙ c.in_ok-first.ensures in
    record {
      goes_by = subst (λ (p : PlanOf). IsScript p script) (sym plan) c.in_ok-script.ensures.goes_by;
      at = at;
      copies_at = record {
        first_plan = ap plan_of first;
        first_at = subst (IsWalk script) (sym first) at;
        start = ap (λ (w : Walk). turn_of w.stand) first ∙ turn;
        later = subst (AllByRecursion (λ (w : Walk). (plan_of w ≡ plan_of here) × IsWalk script w)) (sym c.make-copies.ensures.later) tt;
      };
    }
