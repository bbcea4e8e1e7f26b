-- How a call of `turn` tells the outcome of a turn.
use Rattle.cv_base.specs.declared.ends.End.{End}
use Rattle.cv_machine.specs.declared.turn.Turn.{Turn}
use Rattle.cv_machine.specs.declared.turn.Turn.TheVariants as turn
use Rattle.cv_machine.specs.declared.turn.Went.{Went}
use Rattle.cv_machine.specs.declared.turn.Went.TheVariants.{On, Over}
use Rattle.cv_runs.specs.State.{State, Outcome, Next, Ended}

abbrev pub answer_of : Outcome → Turn
answer_of (Next s transfer) = turn.Next transfer
answer_of (Ended end) = turn.Ended end

-- the same, told in two parts: whether the run goes on, and how it ended where it does not
abbrev pub told : Went → End → Turn
told (On transfer) end = turn.Next transfer
told Over end = turn.Ended end

-- the state after a turn: a turn that ends the run changes nothing
abbrev pub left_by : Outcome → State → State
left_by (Next next transfer) s = next
left_by (Ended end) s = s
