use Rattle.std.proofs.Common.{◌≡◌, ◌<◌, refl, ⊎_elim, arith}
use Rattle.std.proofs.lemmas.Bool.{cases_lt}
use Rattle.std.specs.Prelude.{reverse}
use Rattle.cv_audit.proofs.Rounds.{at_run, earlier_is_below}
use Rattle.cv_audit.proofs.following.are_rounds_done.Goals as goal

pub loop-run-preserved : goal.loop-run-preserved
loop-run-preserved c = λ number r below at earlier.
    ⊎_elim
    (λ low. c.loop-run.invariant number r low at earlier)
    (λ high.
    let same : c.loop-run.run ≡ number = omega arith in
    at_run c.args.plan.now (reverse c.args.history.now) number c.loop-run.run c.round_of-round.result r same at earlier (c.is_missing.ensures.there c.if-is_missing.false))
    (cases_lt number c.loop-run.run)

pub returns : goal.returns
returns c = (
  λ yes number r at earlier.
      let lower = earlier_is_below c.earlier_is_below.ensures c.args.plan.now c.args.entry.now.run number r c.requires at earlier in
      let below : number < c.loop-run.run = omega arith in
      let in_round : r.round < c.round_of-round.result = omega arith in
      c.loop-run.invariant number r below at in_round,
  λ all. refl,
)
