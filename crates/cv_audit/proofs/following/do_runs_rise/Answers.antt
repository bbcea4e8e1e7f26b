use Rattle.std.proofs.Common.{◌≡◌, ◌<◌, refl}
use Rattle.std.specs.Prelude.{reverse}
use Rattle.cv_base.specs.declared.entries.Entry.{Entry}
use Rattle.cv_histories.specs.Legal.{round_of}
use Rattle.cv_audit.proofs.Lists.{at_place, from_reversed}
use Rattle.cv_audit.proofs.following.do_runs_rise.Goals as goal

pub returns-then-not-lets_rise : goal.returns-then-not-lets_rise
returns-then-not-lets_rise c =
    let P = λ (o : Entry). round_of c.args.plan.now o ≡ round_of c.args.plan.now c.args.entry.now → o.worker ≡ c.args.entry.now.worker → o.run < c.args.entry.now.run in
    let h = c.if-not-lets_rise.ensures in (
      λ no. absurd cc,
      λ all. h.1 (at_place P c.args.history.now c.loop-earlier.earlier-index c.earlier-item.result c.loop-earlier-test.true c.earlier-item.is
          (from_reversed P c.args.history.now (reverse c.args.history.now) refl all)),
    )
