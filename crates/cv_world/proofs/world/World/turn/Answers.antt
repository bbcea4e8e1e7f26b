use Rattle.std.proofs.Common.{◌≡◌, ◌∙◌, true, length, sym, subst, arith}
use Rattle.std.specs.Prelude.{slice_set}
use Rattle.std.proofs.lemmas.Option.{slice_get_read}
use Rattle.cv_histories.specs.World.{Turn}
use Rattle.cv_world.specs.InstanceOf.{InstanceOf, may_turn_in}
use Rattle.cv_world.proofs.Instances.{same_at}
use Rattle.cv_world.proofs.Standing.{Leaves, past_disabled}
use Rattle.cv_world.proofs.Turns.{turn_disabled, turn_leaves}
use Rattle.cv_world.proofs.world.World.turn.Goals as goal

-- the world after the turn
turned : (c : goal.In_ok-turn) → Leaves c.self.inside.book c.self.inside.drawn c.self.inside.instances.items (Turn c.args.i) c.self.inside.book c.self.inside.drawn (slice_set c.self.inside.instances.items c.args.i c.turn.new.self)
turned c =
    let xs = c.self.inside.instances.items in
    let count : c.len.result ≡ length xs = c.len.ensures ∙ c.self.inside.instances.ok.0 in
    let same : c.index.result.now ≡ c.index_mut.result.now = same_at xs c.len.result c.args.i _ _ count c.if-i-len.false c.index.ensures c.index_mut.ensures.value in
    turn_leaves c.self.inside.book c.self.inside.drawn xs c.self.invariant c.args.i c.index_mut.result.now
    (slice_get_read xs c.len.result c.args.i _ count c.if-i-len.false c.index_mut.ensures.value)
    c.worlds_stand.ensures
    (subst (λ (x : InstanceOf). may_turn_in x.plan x.going ≡ true) same (sym c.if-not-may_turn.ensures))
    c.turn.new.self c.in_ok-turn.ensures.turned c.in_ok-turn.ensures.flight

pub invariant_of-self-2 : goal.invariant_of-self-2
invariant_of-self-2 c = (turned c).stands

pub returns-clause-done : goal.returns-clause-done
returns-clause-done c = λ did. rw (← c.self.view_is) (turned c).happens

pub returns-then-i-len-clause-disabled : goal.returns-then-i-len-clause-disabled
returns-then-i-len-clause-disabled c = λ did.
    let xs = c.self.inside.instances.items in
    let count : c.len.result ≡ length xs = c.len.ensures ∙ c.self.inside.instances.ok.0 in
    rw (← c.self.view_is)
    (elim c.then-i-len.branch [
      | goal.then-i-len-via-then-i-len w ↦ past_disabled c.self.inside.book c.self.inside.drawn xs (Turn c.args.i) (omega (arith, count, w.if-i-len.true))
      | goal.then-i-len-via-else-i-len+then-not-may_turn w ↦
          turn_disabled c.self.inside.book c.self.inside.drawn xs c.self.invariant c.args.i w.index.result.now
          (slice_get_read xs c.len.result c.args.i _ count w.if-i-len.false w.index.ensures)
          (sym w.if-not-may_turn.ensures)
    ])
