use Rattle.std.proofs.Common.{◌∷◌, ◌∙◌, refl, sym, ap, subst}
use Rattle.std.specs.Prelude.{reverse}
use Rattle.std.proofs.lemmas.List.{reverse-reverse}
use Rattle.cv_histories.specs.Seen.{Seen}
use Rattle.cv_score.specs.Charged.{HasRepair, StandsFor}
use Rattle.cv_manager.proofs.Reversed.{below_reverse, reverse_more, whole_reverse}
use Rattle.cv_manager.proofs.journal.Journal.scores.Goals as goal

pub loop-place-init : goal.loop-place-init
loop-place-init c = record {
  case = c.in_ok-scores.ensures.case;
  repairs = c.in_ok-scores.ensures.repairs;
  charged = c.in_ok-scores.ensures.empty c.args.case.now refl;
}

pub loop-place-preserved : goal.loop-place-preserved
loop-place-preserved c =
    let here : Seen = record { entry = c.at.result.0.now; last = c.at.result.1.now } in
    record {
      case = c.charge.ensures.case ∙ c.loop-place.invariant.case;
      repairs = c.charge.ensures.repairs ∙ c.loop-place.invariant.repairs;
      charged =
          subst (StandsFor c.charge.new.self c.args.case.now)
          (sym
          (reverse_more (reverse c.args.self.now) c.loop-place.place here
          (below_reverse _ _ _ c.len-place-end.ensures.count c.loop-place-test.true)
          (c.at.ensures.seen here)))
          (c.charge.ensures.counted c.args.case.now _ here refl
          (subst (λ n. HasRepair n here.last c.repair_in.result) (sym c.loop-place.invariant.case) (c.repair_in.ensures c.at.ensures.one))
          c.loop-place.invariant.charged);
    }

pub returns-clause-charged : goal.returns-clause-charged
returns-clause-charged c =
    let new : Seen = record { entry = c.args.entry.now; last = c.args.last.now } in
    subst (λ past. StandsFor c.charge-2.new.self c.args.case.now (new ∷ past))
    (ap reverse (whole_reverse c.args.self.now _ _ c.len-place-end.ensures.count c.loop-place-test.false) ∙ reverse-reverse c.args.self.now)
    (c.charge-2.ensures.counted c.args.case.now _ new refl
    (subst (λ n. HasRepair n c.args.last.now c.repair_in-2.result) (sym c.loop-place.invariant.case) (c.repair_in-2.ensures c.requires.one))
    c.loop-place.invariant.charged)
