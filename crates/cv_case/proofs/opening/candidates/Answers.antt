use Rattle.std.proofs.Common.{◌≡◌, ◌∙◌, sym, refl, length, get_or, arith}
use Rattle.std.proofs.lemmas.Bool.Decides.{nat_tests}
use Rattle.cv_runs.specs.Text.{beginnings}
use Rattle.cv_case.proofs.Sites.{passed_over}
use Rattle.cv_case.proofs.opening.candidates.Goals as goal

pub loop-site-preserved : goal.loop-site-preserved
loop-site-preserved c =
    let rs = c.in_ok-nearest.nearest.items in
    let empty : length rs ≡ 0 = grind (arith, nat_tests) in
    sym (passed_over (beginnings c.args.map.now) c.args.learned.now c.args.sites.now c.loop-site.site-index (get_or c.args.sites.now c.loop-site.site-index 0) c.loop-site-test.true refl rs c.in_ok-nearest.ensures empty) ∙ c.loop-site.invariant
