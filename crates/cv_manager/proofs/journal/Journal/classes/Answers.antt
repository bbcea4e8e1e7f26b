use Rattle.std.proofs.Common.{◌≡◌, ◌+◌, ◌++◌, ◌∷◌, [], ◌∙◌, Bool, true, false, cond, refl, sym, ap, subst, take}
use Rattle.std.proofs.lemmas.List.{append-nil}
use Rattle.std.specs.Prelude.{filter, reverse}
use Rattle.cv_class.specs.Counted.{StandsFor}
use Rattle.cv_histories.specs.Classes.{is_checked_failure}
use Rattle.cv_histories.specs.Seen.{Seen}
use Rattle.cv_manager.proofs.Reversed.{below_reverse, filter_more, filter_reverse, reverse_cons, whole_reverse}
use Rattle.cv_manager.proofs.journal.Journal.classes.Goals as goal
use Rattle.cv_manager.proofs.journal.Journal.classes.Goals.{then-is_checked_failure, else-is_checked_failure}

module _ (c : goal.Joined-is_checked_failure) where
  abbrev here : Seen
  here = record { entry = c.at.result.0.now; last = c.at.result.1.now }

  one_more : (b : Bool) → c.is_checked_failure.result ≡ b → filter (is_checked_failure c.args.number c.args.case.now) (take (c.loop-place.place + 1) (reverse c.args.self.now)) ≡ filter (is_checked_failure c.args.number c.args.case.now) (take c.loop-place.place (reverse c.args.self.now)) ++ cond b (here ∷ []) []
  one_more b is =
      filter_more (is_checked_failure c.args.number c.args.case.now) b (reverse c.args.self.now) c.loop-place.place here
      (below_reverse _ _ _ c.len-place-end.ensures.count c.loop-place-test.true)
      (c.at.ensures.seen here)
      (sym c.is_checked_failure.ensures ∙ is)

pub loop-place-preserved : goal.loop-place-preserved
loop-place-preserved c =
    elim c.if-is_checked_failure.branch [
      | then-is_checked_failure w ↦
          rw w.classes-is (record {
            case = w.count.ensures.case ∙ c.loop-place.invariant.case;
            candidates = w.count.ensures.candidates ∙ c.loop-place.invariant.candidates;
            counted = subst (StandsFor w.count.new.self) (sym (one_more c true w.if-is_checked_failure.true)) (w.count.ensures.counted _ (here c) refl c.loop-place.invariant.counted);
          })
      | else-is_checked_failure w ↦
          rw w.classes-is (record {
            case = c.loop-place.invariant.case;
            candidates = c.loop-place.invariant.candidates;
            counted = subst (StandsFor c.loop-place.classes) (sym (one_more c false w.if-is_checked_failure.false ∙ append-nil _)) c.loop-place.invariant.counted;
          })
    ]

pub returns-clause-counted : goal.returns-clause-counted
returns-clause-counted c = λ s same.
    let past = c.args.self.now in
    let p = is_checked_failure c.args.number c.args.case.now in
    subst (StandsFor c.count-2.new.self)
    (ap (λ seen. filter p seen ++ s ∷ []) (whole_reverse past _ _ c.len-place-end.ensures.count c.loop-place-test.false)
    ∙ ap (λ seen. seen ++ s ∷ []) (filter_reverse p past)
    ∙ sym (reverse_cons s (filter p past)))
    (c.count-2.ensures.counted _ s same c.loop-place.invariant.counted)
