use Rattle.std.proofs.Common.{◌<◌, ◌∙◌, length, ap, sym, eq-eqb, arith}
use Rattle.std.specs.Prelude.{◌==◌}
use Rattle.cv_base.specs.declared.entries.Entry.{Entry}
use Rattle.cv_audit.proofs.Floors.{differ, floors_reach, left, taken}
use Rattle.cv_audit.proofs.following.floor_of_worker.Goals as goal
use Rattle.cv_audit.proofs.following.floor_of_worker.Goals.{then-history-k, else-history-k}

pub bounds-floors-k : goal.bounds-floors-k
bounds-floors-k c =
    let long = floors_reach c.args.plan.now c.args.history.now c.args.floors.now c.requires in
    let within : c.loop-k.k < length c.args.history.now = c.loop-k-test.true in
    omega arith

pub loop-k-preserved : goal.loop-k-preserved
loop-k-preserved c =
    let test = λ (o : Entry). o.worker == c.args.entry.now.worker in
    let at = c.index-history-k.is in
    let o = c.index-history-k.result in
    elim c.if-history-k.branch [
      | then-history-k w ↦
          w.floor-is ∙ taken c.args.plan.now test c.args.history.now c.args.floors.now c.loop-k.k o c.requires c.loop-k-test.true at
          (eq-eqb o.worker c.args.entry.now.worker (ap (λ (o : Entry). o.worker) at ∙ w.if-history-k.true))
      | else-history-k w ↦
          w.floor-is ∙ left c.floor_stays.ensures c.args.plan.now test c.args.history.now c.loop-k.floor c.loop-k.k o c.loop-k-test.true at
          (differ o.worker c.args.entry.now.worker (λ same. w.if-history-k.false (ap (λ (o : Entry). o.worker) (sym at) ∙ same))) c.loop-k.invariant
    ]
