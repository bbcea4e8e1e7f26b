use Rattle.std.proofs.Common.{◌≡◌, ◌+◌, ◌-◌, ◌<◌, ◌∙◌, sym, ap, length, List, Bool, rules, arith, true, false}
use Rattle.std.specs.Prelude.{if◌then◌else◌, int_lt}
use mir.Syntax.{w64}
use mir.Val.{SFits, to_z, of_z}
use Rattle.cv_base.specs.declared.cases.Case.{Case}
use Rattle.cv_score.proofs.Best.{best_first, best_compared}
use Rattle.cv_score.specs.Charged.{StandsFor}
use Rattle.cv_histories.specs.Scores.{best, best_from, score}
use Rattle.cv_histories.specs.Seen.{Seen}
use Rattle.cv_score.proofs.scores.Scores.best.Goals as goal
use Rattle.cv_score.proofs.scores.Scores.best.Goals.{then-score, else-score}

pub loop-repair-init : goal.loop-repair-init
loop-repair-init c = record {
  within = omega arith;
  best = λ case past stands. best_first (λ j. score c.args.self.now.case case j past) (length c.args.self.now.counts) c.requires;
}

module _ (c : goal.Joined-score) (case : Case) (past : List Seen) (stands : StandsFor c.args.self.now case past) where
  one_on : (higher : Bool) → int_lt (to_z w64 (of_z w64 c.score-in-loop-repair.result)) (to_z w64 (of_z w64 c.score.result)) ≡ higher → best_from (λ j. score c.args.self.now.case case j past) (if higher then c.loop-repair.repair else c.loop-repair.best) (c.loop-repair.repair + 1) (length c.args.self.now.counts - (c.loop-repair.repair + 1)) ≡ best c.args.self.now.case case (length c.args.self.now.counts) past
  one_on higher compared =
      let left : c.loop-repair.repair < length c.args.self.now.counts = omega (arith, ap (λ k. length k.counts) c.self.view_is) in
      let fits : SFits w64 c.score-in-loop-repair.result = search rules in
      let fits_too : SFits w64 c.score.result = search rules in
      sym (best_compared (λ j. score c.args.self.now.case case j past) _ _ _ _ _ higher left fits fits_too (c.score-in-loop-repair.ensures case past stands) (c.score.ensures case past stands) compared)
      ∙ c.loop-repair.invariant.best case past stands

pub loop-repair-preserved : goal.loop-repair-preserved
loop-repair-preserved c =
    elim c.if-score.branch [
      | then-score w ↦ record {
        within = omega arith;
        best = λ case past stands. rw w.best-is (one_on c case past stands true w.if-score.true);
      }
      | else-score w ↦ record {
        within = omega arith;
        best = λ case past stands. rw w.best-is (one_on c case past stands false w.if-score.false);
      }
    ]
