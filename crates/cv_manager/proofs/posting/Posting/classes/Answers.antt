use Rattle.std.proofs.Common.{◌∷◌, refl, subst}
use Rattle.std.specs.Prelude.{IfOk, reverse}
use Rattle.cv_class.specs.Counted.{StandsFor}
use Rattle.cv_histories.specs.Classes.{checked_failures}
use Rattle.cv_manager.specs.Posting.{PostingOf}
use Rattle.cv_manager.proofs.posting.Posting.classes.Goals as goal

pub returns-clause-counted : goal.returns-clause-counted
returns-clause-counted c =
    subst (λ (p : PostingOf). IfOk c.classes.result (λ k. StandsFor k (reverse (p.new ∷ checked_failures c.args.number c.args.case.now p.past))))
    c.self.view_is
    (c.classes.ensures.counted (record { entry = c.self.inside.entry.now; last = c.self.inside.last.now }) refl)
