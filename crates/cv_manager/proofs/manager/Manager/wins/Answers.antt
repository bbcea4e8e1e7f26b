use Rattle.std.proofs.Common.{◌∙◌, ap}
use Rattle.cv_histories.specs.Scores.{wins}
use Rattle.cv_manager.specs.ManagerOf.{cases_in, seen_in}
use Rattle.cv_manager.proofs.DecidedCase.{there}
use Rattle.cv_manager.proofs.manager.Manager.wins.Goals as goal

pub returns : goal.returns
returns c =
    let of = there (cases_in c.args.self.now) c.args.case c.requires.case in
    c.wins.ensures of.0 _ (c.scores.ensures.stands of.0 of.1)
    ∙ ap (λ number. wins number c.args.repair (seen_in c.args.self.now)) c.scores.ensures.number
