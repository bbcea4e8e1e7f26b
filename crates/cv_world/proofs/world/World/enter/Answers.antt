use Rattle.std.proofs.Common.{◌≡◌, ◌∙◌, true, length, sym, subst, arith}
use Rattle.std.specs.Prelude.{slice_set}
use Rattle.std.proofs.lemmas.Option.{slice_get_read}
use Rattle.cv_exec.specs.ArenaOf.{wants}
use Rattle.cv_histories.specs.World.{Enter}
use Rattle.cv_world.specs.InstanceOf.{InstanceOf}
use Rattle.cv_world.proofs.Enterings.{enter_disabled, enter_leaves, enter_may}
use Rattle.cv_world.proofs.Instances.{same_at}
use Rattle.cv_world.proofs.Standing.{Leaves, past_disabled}
use Rattle.cv_world.proofs.world.World.enter.Goals as goal

pub adopt-requires-clause-may : goal.adopt-requires-clause-may
adopt-requires-clause-may c =
    let xs = c.self.inside.instances.items in
    let count : c.len.result ≡ length xs = c.len.ensures ∙ c.self.inside.instances.ok.0 in
    let same : c.index.result.now ≡ c.index_mut.result.now = same_at xs c.len.result c.args.i _ _ count c.if-i-len.false c.index.ensures c.index_mut.ensures.value in
    enter_may c.self.inside.book c.self.inside.drawn xs c.self.invariant c.args.i c.index_mut.result.now
    (slice_get_read xs c.len.result c.args.i _ count c.if-i-len.false c.index_mut.ensures.value)
    c.some_version.ensures c.newest_is_last.ensures
    (subst (λ (x : InstanceOf). wants x.plan x.going ≡ true) same (sym c.if-not-wants_entry.ensures))
    c.in_ok-version.version c.in_ok-version.table.value c.in_ok-version.ensures.number c.in_ok-version.ensures.table

-- the world after the entering
stands : (c : goal.In_ok-adopt) → Leaves c.self.inside.book c.self.inside.drawn c.self.inside.instances.items (Enter c.args.i) c.self.inside.book c.self.inside.drawn (slice_set c.self.inside.instances.items c.args.i c.adopt.new.self)
stands c =
    let xs = c.self.inside.instances.items in
    let count : c.len.result ≡ length xs = c.len.ensures ∙ c.self.inside.instances.ok.0 in
    let same : c.index.result.now ≡ c.index_mut.result.now = same_at xs c.len.result c.args.i _ _ count c.if-i-len.false c.index.ensures c.index_mut.ensures.value in
    enter_leaves c.self.inside.book c.self.inside.drawn xs c.self.invariant c.args.i c.index_mut.result.now
    (slice_get_read xs c.len.result c.args.i _ count c.if-i-len.false c.index_mut.ensures.value)
    c.some_version.ensures c.newest_is_last.ensures c.worlds_stand.ensures
    (subst (λ (x : InstanceOf). wants x.plan x.going ≡ true) same (sym c.if-not-wants_entry.ensures))
    c.in_ok-version.version c.in_ok-version.table.value c.in_ok-version.ensures.number c.in_ok-version.ensures.table
    c.adopt.new.self c.in_ok-adopt.ensures.entered c.in_ok-adopt.ensures.flight

pub invariant_of-self-2 : goal.invariant_of-self-2
invariant_of-self-2 c = (stands c).stands

pub returns-clause-done : goal.returns-clause-done
returns-clause-done c = λ did. rw (← c.self.view_is) (stands c).happens

pub returns-then-i-len-clause-disabled : goal.returns-then-i-len-clause-disabled
returns-then-i-len-clause-disabled c = λ did.
    let xs = c.self.inside.instances.items in
    let count : c.len.result ≡ length xs = c.len.ensures ∙ c.self.inside.instances.ok.0 in
    rw (← c.self.view_is)
    (elim c.then-i-len.branch [
      | goal.then-i-len-via-then-i-len w ↦ past_disabled c.self.inside.book c.self.inside.drawn xs (Enter c.args.i) (omega (arith, count, w.if-i-len.true))
      | goal.then-i-len-via-else-i-len+then-not-wants_entry w ↦
          enter_disabled c.self.inside.book c.self.inside.drawn xs c.self.invariant c.args.i w.index.result.now
          (slice_get_read xs c.len.result c.args.i _ count w.if-i-len.false w.index.ensures)
          (sym w.if-not-wants_entry.ensures)
    ])
