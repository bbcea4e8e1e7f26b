-- A plain run that is seen turn by turn: what was seen so far, and what is left of the run.
use Rattle.std.proofs.Common.{◌≡◌, ◌∙◌, ◌<◌, ℕ, zero, suc, List, [], ◌∷◌, ◌++◌, refl, sym, ap, subst, append_assoc, Result, Ok, Err, ◌-◌, arith}
use Rattle.std.specs.Prelude.{IsOk, OnOk}
use Rattle.std.proofs.lemmas.List.{append-nil, map-append}
use Rattle.cv_base.specs.declared.entries.Observation.{Observation}
use Rattle.cv_base.specs.Picture.{Picture}
use Rattle.cv_exec.specs.RunEnds.{left_after}
use Rattle.cv_machine.specs.Answers.{left_by}
use Rattle.cv_observe.specs.StandsFor.{StandsFor, SummaryOf}
use Rattle.cv_runs.specs.Learned.{observations, seen_in}
use Rattle.cv_runs.specs.PlainRun.{Step, stepped, steps_from}
use Rattle.cv_runs.specs.PlainTurn.{turn_of}
use Rattle.cv_runs.specs.State.{State, Outcome, Next, Ended}

-- the steps so far were seen, and with those that are left they are the run
pub record Looks (image : Picture) (run : List Step) (left : ℕ) (s : State) (summary : SummaryOf) : Type 0 where
  pub done : List Step
  pub whole : run ≡ done ++ steps_from image left s
  pub seen : StandsFor summary (observations done)

one_turn : (image : Picture) (left : ℕ) (s : State) (o : Outcome) → turn_of image s ≡ o → steps_from image (suc left) s ≡ stepped s o (steps_from image left)
unfolding steps_from
one_turn image left s o is = ap (λ (o : Outcome). stepped s o (steps_from image left)) is

none_left : (image : Picture) (s : State) → steps_from image 0 s ≡ []
unfolding steps_from
none_left image s = refl

module _ (image : Picture) (run : List Step) (left : ℕ) (s : State) (old new : SummaryOf) (before : Looks image run (suc left) s old)
    (sees : (seen : List Observation) → StandsFor old seen → StandsFor new (seen ++ seen_in s ∷ [])) where
  more_seen : (step : Step) → step.before ≡ s → StandsFor new (observations (before.done ++ step ∷ []))
  more_seen step is =
      subst (StandsFor new) (sym (map-append (λ (step : Step). seen_in step.before) before.done (step ∷ [])))
      (rw is (sees (observations before.done) before.seen))

  with_outcome : (o : Outcome) → turn_of image s ≡ o → Looks image run (left_after (suc left) o) (left_by o s) new
  with_outcome (Next next transfer) is =
      let step : Step = record { before = s; outcome = Next next transfer } in
      let less : left ≡ suc left - 1 = omega arith in
      record {
        done = before.done ++ step ∷ [];
        whole = before.whole ∙ ap (λ (l : List Step). before.done ++ l) (one_turn image left s (Next next transfer) is) ∙ sym (append_assoc before.done (step ∷ []) (steps_from image left next))
            ∙ ap (λ (n : ℕ). (before.done ++ step ∷ []) ++ steps_from image n next) less;
        seen = more_seen step refl;
      }
  with_outcome (Ended end) is =
      let step : Step = record { before = s; outcome = Ended end } in
      record {
        done = before.done ++ step ∷ [];
        whole = before.whole ∙ ap (λ (l : List Step). before.done ++ l) (one_turn image left s (Ended end) is) ∙ sym (ap (λ (l : List Step). (before.done ++ step ∷ []) ++ l) (none_left image s) ∙ append-nil (before.done ++ step ∷ []));
        seen = more_seen step refl;
      }

  looks_more : Looks image run (left_after (suc left) (turn_of image s)) (left_by (turn_of image s) s) new
  looks_more = with_outcome (turn_of image s) refl

-- after one more turn
pub looks_on : (image : Picture) (run : List Step) (left : ℕ) (s : State) (old new : SummaryOf) → 0 < left → Looks image run left s old → ((seen : List Observation) → StandsFor old seen → StandsFor new (seen ++ seen_in s ∷ []))
    → Looks image run (left_after left (turn_of image s)) (left_by (turn_of image s) s) new
looks_on image run zero s old new some before sees = absurd (omega arith)
looks_on image run (suc left) s old new some before sees = looks_more image run left s old new before sees

-- what holds after Ok holds of a call that always answers it
pub ok_holds : {T E P : Type 0} (r : Result T E) → IsOk r → OnOk r P → P
ok_holds (Ok t) is holds = holds
ok_holds (Err e) is holds = cc

-- where no turn is left, all of the run was seen
pub looks_all : (image : Picture) (run : List Step) (left : ℕ) (s : State) (summary : SummaryOf) → left ≡ 0 → Looks image run left s summary → StandsFor summary (observations run)
looks_all image run left s summary none looks =
    let rest : steps_from image left s ≡ [] = ap (λ (n : ℕ). steps_from image n s) none ∙ none_left image s in
    let all : run ≡ looks.done = looks.whole ∙ ap (λ (l : List Step). looks.done ++ l) rest ∙ append-nil looks.done in
    subst (λ (steps : List Step). StandsFor summary (observations steps)) (sym all) looks.seen
