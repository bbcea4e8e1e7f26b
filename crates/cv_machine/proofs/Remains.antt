-- What is left of a run after some of its turns: it ends as the whole does, leaves the same state,
-- and its turns and those done are the whole's.
use Rattle.std.proofs.Common.{◌≡◌, ◌<◌, ◌+◌, ◌-◌, ℕ, suc, Bool, length, sym, ap, ◌∙◌, refl, arith}
use Rattle.std.specs.Prelude.{[]}
use Rattle.cv_base.specs.declared.ends.End.{End}
use Rattle.cv_base.specs.declared.ends.End.TheVariants.{Budget}
use Rattle.cv_base.specs.Picture.{Picture}
use Rattle.cv_machine.specs.Answers.{answer_of, left_by}
use Rattle.cv_machine.specs.declared.turn.Turn.TheVariants as turn
use Rattle.cv_runs.specs.PlainRun.{steps_from, stepped, end_of, state_left}
use Rattle.cv_runs.specs.PlainTurn.{turn_of}
use Rattle.cv_runs.specs.State.{State, Outcome, Next, Ended}

pub record Remains (image : Picture) (start : State) (budget done : ℕ) (s : State) : Type 0 where
  pub ends : end_of (steps_from image (budget - done) s) ≡ end_of (steps_from image budget start)
  pub turns : done + length (steps_from image (budget - done) s) ≡ length (steps_from image budget start)
  pub leaves : state_left s (steps_from image (budget - done) s) ≡ state_left start (steps_from image budget start)

-- how the whole run ended, after how many turns, and in which state
pub record Ends (image : Picture) (start : State) (budget : ℕ) (end : End) (count : ℕ) (s : State) : Type 0 where
  pub ends : end ≡ end_of (steps_from image budget start)
  pub turns : count ≡ length (steps_from image budget start)
  pub leaves : s ≡ state_left start (steps_from image budget start)

one_turn : (image : Picture) (k : ℕ) (s : State) (o : Outcome) → turn_of image s ≡ o → steps_from image (suc k) s ≡ stepped s o (steps_from image k)
unfolding steps_from
one_turn image k s o is = ap (λ o. stepped s o (steps_from image k)) is

next_turn : (image : Picture) (budget done : ℕ) (s : State) (o : Outcome) → done < budget → turn_of image s ≡ o → steps_from image (budget - done) s ≡ stepped s o (steps_from image (budget - (done + 1)))
next_turn image budget done s o below is =
    let fewer : budget - done ≡ suc (budget - (done + 1)) = omega arith in
    rw fewer (one_turn image (budget - (done + 1)) s o is)

more_of : (image : Picture) (start : State) (budget done : ℕ) (s next : State) (o : Outcome) (transfer : Bool) → done < budget → steps_from image (budget - done) s ≡ stepped s o (steps_from image (budget - (done + 1))) → turn.Next transfer ≡ answer_of o → next ≡ left_by o s → Remains image start budget done s → Remains image start budget (done + 1) next
more_of image start budget done s next (Next n t) transfer below steps answer left r =
    record {
      ends = rw left (sym (ap end_of steps) ∙ r.ends);
      turns = rw left (omega (arith, ap length steps, r.turns));
      leaves = rw left (sym (ap (state_left s) steps) ∙ r.leaves);
    }
more_of image start budget done s next (Ended e) transfer below steps answer left r = cc

stopped_of : (image : Picture) (start : State) (budget done : ℕ) (s next : State) (o : Outcome) (end : End) → done < budget → steps_from image (budget - done) s ≡ stepped s o (steps_from image (budget - (done + 1))) → turn.Ended end ≡ answer_of o → next ≡ left_by o s → Remains image start budget done s → Ends image start budget end (done + 1) next
stopped_of image start budget done s next (Next n t) end below steps answer left r = cc
stopped_of image start budget done s next (Ended e) end below steps answer left r =
    let same : end ≡ e = cc in
    record {
      ends = same ∙ sym (ap end_of steps) ∙ r.ends;
      turns = omega (arith, ap length steps, r.turns);
      leaves = left ∙ sym (ap (state_left s) steps) ∙ r.leaves;
    }

-- after a turn that goes on
pub more : (image : Picture) (start : State) (budget done : ℕ) (s next : State) (transfer : Bool) → done < budget → turn.Next transfer ≡ answer_of (turn_of image s) → next ≡ left_by (turn_of image s) s → Remains image start budget done s → Remains image start budget (done + 1) next
more image start budget done s next transfer below answer left r =
    more_of image start budget done s next (turn_of image s) transfer below (next_turn image budget done s _ below refl) answer left r

-- after a turn that ends the run
pub stopped : (image : Picture) (start : State) (budget done : ℕ) (s next : State) (end : End) → done < budget → turn.Ended end ≡ answer_of (turn_of image s) → next ≡ left_by (turn_of image s) s → Remains image start budget done s → Ends image start budget end (done + 1) next
stopped image start budget done s next end below answer left r =
    stopped_of image start budget done s next (turn_of image s) end below (next_turn image budget done s _ below refl) answer left r

-- after the last turn that the budget allows
pub over : (image : Picture) (start : State) (budget done : ℕ) (s : State) → done ≡ budget → Remains image start budget done s → Ends image start budget Budget budget s
unfolding steps_from
over image start budget done s all r =
    let none : budget - done ≡ 0 = omega arith in
    let steps : steps_from image (budget - done) s ≡ [] = rw none in
    record {
      ends = sym (ap end_of steps) ∙ r.ends;
      turns = omega (arith, ap length steps, r.turns);
      leaves = sym (ap (state_left s) steps) ∙ r.leaves;
    }
