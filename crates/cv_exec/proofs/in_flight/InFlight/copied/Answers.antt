use Rattle.std.proofs.Common.{sym, subst}
use Rattle.cv_base.specs.PlanOf.{PlanOf}
use Rattle.cv_exec.proofs.Copied.{in_flight_copied}
use Rattle.cv_exec.proofs.in_flight.InFlight.copied.Goals as goal
use Rattle.cv_exec.specs.InFlightStands.{IsInFlight}
use Rattle.cv_machine.specs.Held.{Held}

pub invariant_of-result : goal.invariant_of-result
invariant_of-result c =
    let here = in_flight_copied c.self.inside.plan c.self.inside.machine c.self.inside.text c.self.inside.flying c.in_ok-flying.flying c.in_ok-flying.ensures c.self.invariant in
    subst (λ (m : Held). IsInFlight c.in_ok-plan.plan m c.self.inside.text c.in_ok-flying.flying) (sym c.in_ok-machine.ensures)
    (subst (λ (p : PlanOf). IsInFlight p c.self.inside.machine c.self.inside.text c.in_ok-flying.flying) (sym c.in_ok-plan.ensures) here)
