use Rattle.std.proofs.Common.{◌≡◌, drop}
use Rattle.cv_histories.specs.Cases.{candidates_at}
use Rattle.cv_runs.specs.Text.{beginnings}
use Rattle.cv_case.proofs.opening.candidates.Given as goal

abbrev pub invariant-loop-site : goal.invariant-loop-site
invariant-loop-site l =
    candidates_at (beginnings l.map) l.learned (drop l.site-index l.sites) ≡ candidates_at (beginnings l.map) l.learned l.sites
