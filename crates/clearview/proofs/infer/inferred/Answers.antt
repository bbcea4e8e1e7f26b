use Rattle.std.proofs.Common.{◌≡◌, ◌∙◌, ap, subst}
use Rattle.std.specs.Prelude.{IfOk}
use Rattle.std.specs.List.{flat_map}
use Rattle.cv_base.specs.Picture.{Picture}
use Rattle.cv_base.specs.PlanOf.{PlanOf}
use Rattle.cv_blocks.specs.TextMap.{text_only}
use Rattle.cv_histories.specs.OtherTexts.{seen_in_learn_run}
use Rattle.cv_histories.specs.Runs.{runs}
use Rattle.cv_runs.specs.Learned.{learned}
use Rattle.clearview.proofs.infer.inferred.Goals as goal

pub returns : goal.returns
returns c =
    let seen = flat_map (seen_in_learn_run c.args.plan.now) (runs c.args.plan.now) in
    let text = c.learn_runs.ensures.text ∙ c.in_ok-merged.ensures.text ∙ c.in_ok-map.ensures ∙ ap (λ (p : PlanOf). text_only p.image) c.plan.view_is in
    subst (λ (t : Picture). IfOk c.learned.result (λ l. l ≡ learned t seen)) text (c.learned.ensures seen c.in_ok-learn_runs.ensures.seen)
