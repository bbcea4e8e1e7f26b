use Rattle.std.proofs.Common.{◌≡◌, ◌<◌, ◌∙◌, length, ap, sym, arith}
use Rattle.std.specs.Prelude.{nat_lt}
use Rattle.cv_base.specs.declared.entries.Entry.{Entry}
use Rattle.cv_histories.specs.Legal.{round_of}
use Rattle.cv_audit.proofs.Floors.{floors_reach, is_before, is_not_before, left, taken}
use Rattle.cv_audit.proofs.following.floor_of_rounds.Goals as goal
use Rattle.cv_audit.proofs.following.floor_of_rounds.Goals.{then-round_of-round, else-round_of-round}

pub bounds-floors-k : goal.bounds-floors-k
bounds-floors-k c =
    let long = floors_reach c.args.plan.now c.args.history.now c.args.floors.now c.requires in
    let within : c.loop-k.k < length c.args.history.now = c.loop-k-test.true in
    omega arith

pub loop-k-preserved : goal.loop-k-preserved
loop-k-preserved c =
    let plan = c.args.plan.now in
    let e = c.args.entry.now in
    let test = λ (o : Entry). nat_lt (round_of plan o) (round_of plan e) in
    let at = c.index-history-k.is in
    let o = c.index-history-k.result in
    let its : c.round_of.result ≡ round_of plan o = c.round_of.ensures ∙ ap (λ (o : Entry). round_of plan o) (sym at) in
    let own : c.round_of-round.result ≡ round_of plan e = c.round_of-round.ensures in
    elim c.if-round_of-round.branch [
      | then-round_of-round w ↦
          let less = w.if-round_of-round.true in
          w.floor-is ∙ taken plan test c.args.history.now c.args.floors.now c.loop-k.k o c.requires c.loop-k-test.true at
          (is_before (round_of plan o) (round_of plan e) (omega arith))
      | else-round_of-round w ↦
          let above = w.if-round_of-round.false in
          w.floor-is ∙ left c.floor_stays.ensures plan test c.args.history.now c.loop-k.floor c.loop-k.k o c.loop-k-test.true at
          (is_not_before (round_of plan o) (round_of plan e) (omega arith)) c.loop-k.invariant
    ]
