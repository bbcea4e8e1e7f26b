use Rattle.std.proofs.Common.{List, ℕ, Ok, refl, ap, ◌∙◌, subst}
use Rattle.cv_histories.specs.Report.{report}
use Rattle.cv_manager.specs.ManagerOf.{ManagerOf}
use Rattle.clearview.specs.Causes.{Writes}
use Rattle.clearview.proofs.Keeping.{posted}
use Rattle.clearview.proofs.kept.whole.Goals as goal

pub returns-in-Ok : goal.returns-in-Ok
returns-in-Ok g c =
    let text = c.as_bytes.ensures.value ∙ c.in-Ok.ensures ∙ ap (λ (m : ManagerOf). report m.plan m.past) c.manager.ensures.value in (
      refl,
      record {
        ends = c.written-cause.ensures.ends;
        posted = posted c.args.book c.one_worker_is_serial.ensures c.requires.limits c.manager.ensures.legal c.manager.ensures.unfired c.requires.whole;
        writes = subst (λ (t : List ℕ). Writes (Ok t) c.written-cause.result (g.K.Sink.written c.args.sink.now) (g.K.Sink.written c.written-cause.new.sink)) text c.written-cause.ensures.writes;
        sink_fault = c.written-cause.ensures.fault;
      },
    )
