-- A plain run's steps, one turn after another.
use Rattle.std.proofs.Common.{◌≡◌, ◌+◌, ℕ, suc, Bool, List, [], ◌∷◌, ◌++◌, refl, sym, ap, ◌∙◌, append_assoc, arith}
use Rattle.std.proofs.lemmas.List.{append-nil}
use Rattle.cv_base.specs.declared.ends.End.{End}
use Rattle.cv_base.specs.Picture.{Picture}
use Rattle.cv_runs.specs.PlainRun.{Step, steps_from, stepped}
use Rattle.cv_runs.specs.PlainTurn.{turn_of}
use Rattle.cv_runs.specs.State.{State, Outcome, Next, Ended}
use Rattle.cv_laws.specs.TurnStatements.{NoPlainTurn, PlainTurnFirst}

-- a run is its first turn and what follows it
pub turn_first : PlainTurnFirst
unfolding steps_from
turn_first image k s o is = ap (λ (o : Outcome). stepped s o (steps_from image k)) is

-- a run of no turns
pub no_turn : NoPlainTurn
unfolding steps_from
no_turn image s = refl

-- after the `count` steps `done` a run goes on in the state s
abbrev pub Grows : Picture → State → ℕ → List Step → State → Type 0
Grows image start count done s = (turns : ℕ) → steps_from image (count + turns) start ≡ done ++ steps_from image turns s

-- before the first turn
pub grows_first : (image : Picture) (start : State) → Grows image start 0 [] start
grows_first image start turns =
    let count : 0 + turns ≡ turns = omega arith in
    ap (λ (k : ℕ). steps_from image k start) count

-- the steps so far are those of as many turns
pub made_so_far : (image : Picture) (start : State) (count : ℕ) (done : List Step) (s : State) → Grows image start count done s → steps_from image count start ≡ done
made_so_far image start count done s grows =
    let none : count ≡ count + 0 = omega arith in
    ap (λ (k : ℕ). steps_from image k start) none
    ∙ grows 0
    ∙ ap (λ (rest : List Step). done ++ rest) (no_turn image s)
    ∙ append-nil done

module _ (image : Picture) (start : State) (count : ℕ) (done : List Step) (s : State) (grows : Grows image start count done s) where
  -- its next turn, and what follows it
  one_turn : (turns : ℕ) (o : Outcome) → turn_of image s ≡ o → steps_from image (suc count + turns) start ≡ done ++ stepped s o (steps_from image turns)
  one_turn turns o is =
      let one_more : suc count + turns ≡ count + suc turns = omega arith in
      ap (λ (k : ℕ). steps_from image k start) one_more
      ∙ grows (suc turns)
      ∙ ap (λ (rest : List Step). done ++ rest) (turn_first image turns s o is)

  -- after a turn that others follow
  pub goes_on : (next : State) (transfer : Bool) → turn_of image s ≡ Next next transfer → Grows image start (suc count) (done ++ record { before = s; outcome = Next next transfer } ∷ []) next
  goes_on next transfer is turns =
      one_turn turns (Next next transfer) is ∙ sym (append_assoc done (record { before = s; outcome = Next next transfer } ∷ []) (steps_from image turns next))

  -- a turn that ends the run
  pub stops : (turns : ℕ) (end : End) → turn_of image s ≡ Ended end → steps_from image (suc count + turns) start ≡ done ++ record { before = s; outcome = Ended end } ∷ []
  stops turns end is = one_turn turns (Ended end) is
