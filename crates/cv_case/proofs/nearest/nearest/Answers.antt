use Rattle.std.proofs.Common.{◌≡◌, ◌≢◌, true, false, eqb, ap, ◌∙◌, arith}
use Rattle.std.proofs.lemmas.Bool.Decides.{nat_tests}
use Rattle.cv_base.specs.declared.invariants.Invariant.{Invariant}
use Rattle.cv_histories.specs.declared.TheConstants.{MOST_CANDIDATES}
use Rattle.cv_runs.specs.Invariants.{point_of}
use Rattle.cv_runs.specs.Text.{beginnings, proc_in, proc_of}
use Rattle.cv_case.proofs.Placing.{taken_in, left_out}
use Rattle.cv_case.proofs.nearest.nearest.Goals as goal
use Rattle.cv_case.proofs.nearest.nearest.Goals.{then-proc_of-procedure+in_ok-place, else-proc_of-procedure}

pub loop-invariant-preserved : goal.loop-invariant-preserved
loop-invariant-preserved c =
    let starts = beginnings c.args.map.now in
    let k = c.invariant-item.result in
    let site = c.args.site in
    let named : c.proc_of.result ≡ proc_in starts (point_of k) = c.proc_of.ensures ∙ ap (proc_of c.args.map.now) c.point_of.ensures in
    let here : c.proc_of-procedure.result ≡ proc_in starts site = c.proc_of-procedure.ensures in
    elim c.if-proc_of-procedure.branch [
      | then-proc_of-procedure+in_ok-place w ↦
          let same : c.proc_of.result ≡ c.proc_of-procedure.result = w.if-proc_of-procedure.true in
          let is : eqb (proc_in starts (point_of k)) (proc_in starts site) ≡ true = grind (arith, nat_tests) in
          rw w.nearest-is (w.in_ok-place.ensures ∙ taken_in site MOST_CANDIDATES (λ (x : Invariant). eqb (proc_in starts (point_of x)) (proc_in starts site)) c.args.learned.now _ k c.loop-invariant-test.true c.invariant-item.is _ c.loop-invariant.invariant is)
      | else-proc_of-procedure w ↦
          let other : c.proc_of.result ≢ c.proc_of-procedure.result = w.if-proc_of-procedure.false in
          let is : eqb (proc_in starts (point_of k)) (proc_in starts site) ≡ false = grind (arith, nat_tests) in
          rw w.nearest-is (left_out site MOST_CANDIDATES (λ (x : Invariant). eqb (proc_in starts (point_of x)) (proc_in starts site)) c.args.learned.now _ k c.loop-invariant-test.true c.invariant-item.is _ c.loop-invariant.invariant is)
    ]
