use Rattle.std.proofs.Common.{◌≡◌, ◌∙◌, ℕ, [], Some, refl, sym, ap, subst}
use Rattle.std.specs.Prelude.{option_map}
use Rattle.cv_base.specs.PlanOf.{PlanOf}
use Rattle.cv_histories.specs.Flight.{begun}
use Rattle.cv_histories.specs.Runs.{Run, run_at}
use Rattle.cv_replay.proofs.NextTurn.{begun_near}
use Rattle.cv_replay.specs.Script.{IsScript}
use Rattle.cv_replay.proofs.stand.Stand.make.Goals as goal

pub enter-requires-clause-near : goal.enter-requires-clause-near
enter-requires-clause-near c =
    let s = c.args.script.now in
    let plan : c.start.new.self.plan ≡ c.args.plan.now = c.start.ensures.plan ∙ c.in_ok-flight.ensures.plan in
    begun_near s (record { flight = c.start.new.self; cursor = record { row = 0; used = 0 } }) c.args.worker
    (subst (λ (p : PlanOf). IsScript p s) (sym plan) c.requires.script)
    (subst (λ (run : ℕ). c.start.new.self.going ≡ Some (record { run = run; worker = c.args.worker; turns = 0; adopted = [] })) c.run.ensures c.start.ensures.going)
    (c.start.ensures.flight
    ∙ ap (λ (p : PlanOf). option_map (λ (r : Run). begun p c.run.result r) (run_at p c.run.result)) (sym c.start.ensures.plan)
    ∙ ap (λ (run : ℕ). option_map (λ (r : Run). begun c.start.new.self.plan run r) (run_at c.start.new.self.plan run)) c.run.ensures)
    refl
