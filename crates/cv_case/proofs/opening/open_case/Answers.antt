use Rattle.cv_base.specs.declared.invariants.Invariant.{Invariant}
use Rattle.cv_base.specs.Invariants.{is_invariant}
use Rattle.cv_base.specs.Picture.{is_point}
use Rattle.cv_runs.specs.Invariants.{point_of}
use Rattle.cv_runs.specs.Text.{beginnings}
use Rattle.cv_case.proofs.Kept.{list_all_candidates}
use Rattle.cv_case.proofs.opening.open_case.Goals as goal

pub returns-clause-kinds : goal.returns-clause-kinds
returns-clause-kinds c = λ each.
    rw c.in_ok-candidates.ensures (list_all_candidates is_invariant (beginnings c.args.map.now) c.args.learned.now each c.as_slice.result.now)

pub returns-clause-points : goal.returns-clause-points
returns-clause-points c =
    rw c.in_ok-candidates.ensures (list_all_candidates (λ (k : Invariant). is_point c.args.map.now (point_of k)) (beginnings c.args.map.now) c.args.learned.now c.requires.points c.as_slice.result.now)
