use Rattle.std.proofs.Common.{◌≡◌, ◌∙◌, ◌<◌, ◌+◌, false, length, sym, subst, arith}
use Rattle.std.specs.Prelude.{is_some, slice_set}
use Rattle.std.proofs.lemmas.Option.{slice_get_read}
use Rattle.cv_histories.specs.World.{Begin}
use Rattle.cv_world.specs.InstanceOf.{InstanceOf}
use Rattle.cv_world.proofs.Beginnings.{begin_busy, begin_leaves, drawn_run, draws, few_drawn}
use Rattle.cv_world.proofs.Instances.{same_at}
use Rattle.cv_world.proofs.Standing.{Leaves, past_disabled}
use Rattle.cv_world.proofs.world.World.begin.Goals as goal

pub begin-requires-clause-plan : goal.begin-requires-clause-plan
begin-requires-clause-plan c =
    let xs = c.self.inside.instances.items in
    let count : c.len.result ≡ length xs = c.len.ensures ∙ c.self.inside.instances.ok.0 in
    c.plan.ensures ∙ sym (c.self.invariant.each c.args.i c.index_mut.result.now (slice_get_read xs c.len.result c.args.i _ count c.if-i-len.false c.index_mut.ensures.value)).plan_is

pub begin-requires-clause-run : goal.begin-requires-clause-run
begin-requires-clause-run c =
    drawn_run c.self.inside.book c.self.inside.drawn c.self.inside.instances.items c.self.invariant c.args.self.now c.self.view_is c.in-Some.run' c.in-Some.ensures
    c.numbers_are_of_round.ensures c.runs_are_counted.ensures c.plan.result.now c.plan.ensures

pub overflow_add-self : goal.overflow_add-self
overflow_add-self c =
    let few : c.self.inside.drawn < 1024 =
    few_drawn c.self.inside.book c.self.inside.drawn c.self.inside.instances.items c.self.invariant c.args.self.now c.self.view_is c.in-Some.run' c.in-Some.ensures
    c.numbers_are_of_round.ensures c.runs_are_counted.ensures in
    omega arith

-- the world after the beginning
begun : (c : goal.After-self-2-1) → Leaves c.self.inside.book c.self.inside.drawn c.self.inside.instances.items (Begin c.args.i) c.self.inside.book (c.self.inside.drawn + 1) (slice_set c.self.inside.instances.items c.args.i c.begin.new.self)
begun c =
    let xs = c.self.inside.instances.items in
    let count : c.len.result ≡ length xs = c.len.ensures ∙ c.self.inside.instances.ok.0 in
    let same : c.index.result.now ≡ c.index_mut.result.now = same_at xs c.len.result c.args.i _ _ count c.if-i-len.false c.index.ensures c.index_mut.ensures.value in
    begin_leaves c.self.inside.book c.self.inside.drawn xs c.self.invariant c.args.i c.index_mut.result.now
    (slice_get_read xs c.len.result c.args.i _ count c.if-i-len.false c.index_mut.ensures.value)
    c.numbers_are_of_round.ensures c.runs_are_counted.ensures c.worlds_stand.ensures c.in-Some.run'
    (subst (λ (x : InstanceOf). is_some x.going ≡ false) same (sym c.if-has_run.ensures))
    (draws c.self.inside.book c.self.inside.drawn xs c.self.invariant c.args.self.now c.self.view_is c.in-Some.run' c.in-Some.ensures)
    c.begin.new.self c.in_ok-begin.ensures.begun c.in_ok-begin.ensures.flight

pub invariant_of-self-2 : goal.invariant_of-self-2
invariant_of-self-2 c = (begun c).stands

pub returns-clause-done : goal.returns-clause-done
returns-clause-done c = λ did. rw (← c.self.view_is) (begun c).happens

pub returns-then-i-len-clause-disabled : goal.returns-then-i-len-clause-disabled
returns-then-i-len-clause-disabled c = λ did.
    let xs = c.self.inside.instances.items in
    let count : c.len.result ≡ length xs = c.len.ensures ∙ c.self.inside.instances.ok.0 in
    rw (← c.self.view_is)
    (elim c.then-i-len.branch [
      | goal.then-i-len-via-then-i-len w ↦ past_disabled c.self.inside.book c.self.inside.drawn xs (Begin c.args.i) (omega (arith, count, w.if-i-len.true))
      | goal.then-i-len-via-else-i-len+then-has_run w ↦
          begin_busy c.self.inside.book c.self.inside.drawn xs c.self.invariant c.args.i w.index.result.now
          (slice_get_read xs c.len.result c.args.i _ count w.if-i-len.false w.index.ensures)
          (sym w.if-has_run.ensures)
    ])
