use Rattle.std.proofs.Common.{refl, sym, subst}
use Rattle.cv_histories.specs.Seen.{Seen}
use Rattle.cv_manager.specs.Posting.{PostingOf, all_of}
use Rattle.cv_score.specs.Charged.{HasRepair, StandsFor}
use Rattle.cv_manager.proofs.posting.Posting.charge.Goals as goal

pub returns-clause-charged : goal.returns-clause-charged
returns-clause-charged c = λ case.
    let new : Seen = record { entry = c.self.inside.entry.now; last = c.self.inside.last.now } in
    subst (λ (p : PostingOf). StandsFor c.args.scores.now case p.past → StandsFor c.charge.new.self case (all_of p))
    c.self.view_is
    (c.charge.ensures.counted case _ new refl
    (subst (λ n. HasRepair n new.last c.repair_in.result) (sym c.requires.case) (c.repair_in.ensures c.self.invariant.one)))
