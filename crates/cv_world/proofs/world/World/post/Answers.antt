use Rattle.std.proofs.Common.{◌≡◌, ◌∙◌, true, length, sym, subst, arith}
use Rattle.std.specs.Prelude.{slice_set}
use Rattle.std.proofs.lemmas.Option.{slice_get_read}
use Rattle.cv_exec.specs.ArenaOf.{is_over}
use Rattle.cv_histories.specs.World.{Post}
use Rattle.cv_world.specs.InstanceOf.{InstanceOf}
use Rattle.cv_world.proofs.Instances.{same_at}
use Rattle.cv_world.proofs.Postings.{post_disabled, post_may, post_plan, posted_anew, posted_on}
use Rattle.cv_world.proofs.Standing.{Leaves, past_disabled}
use Rattle.cv_world.proofs.world.World.post.Goals as goal

pub post-requires-clause-plan : goal.post-requires-clause-plan
post-requires-clause-plan c =
    let xs = c.self.inside.instances.items in
    let count : c.len.result ≡ length xs = c.len.ensures ∙ c.self.inside.instances.ok.0 in
    post_plan c.self.inside.book c.self.inside.drawn xs c.self.invariant c.args.i c.index_mut.result.now
    (slice_get_read xs c.len.result c.args.i _ count c.if-i-len.false c.index_mut.ensures.value)

pub post-requires-clause-follows : goal.post-requires-clause-follows
post-requires-clause-follows c =
    let xs = c.self.inside.instances.items in
    let count : c.len.result ≡ length xs = c.len.ensures ∙ c.self.inside.instances.ok.0 in
    let same : c.index.result.now ≡ c.index_mut.result.now = same_at xs c.len.result c.args.i _ _ count c.if-i-len.false c.index.ensures c.index_mut.ensures.value in
    post_may c.self.inside.book c.self.inside.drawn xs c.self.invariant c.args.i c.index_mut.result.now
    (slice_get_read xs c.len.result c.args.i _ count c.if-i-len.false c.index_mut.ensures.value)
    c.ended_may_follow.ensures
    (subst (λ (x : InstanceOf). is_over x.plan x.going ≡ true) same (sym c.if-not-ended.ensures))

pub returns-then-i-len-clause-disabled : goal.returns-then-i-len-clause-disabled
returns-then-i-len-clause-disabled c = λ did.
    let xs = c.self.inside.instances.items in
    let count : c.len.result ≡ length xs = c.len.ensures ∙ c.self.inside.instances.ok.0 in
    rw (← c.self.view_is)
    (elim c.then-i-len.branch [
      | goal.then-i-len-via-then-i-len w ↦ past_disabled c.self.inside.book c.self.inside.drawn xs (Post c.args.i) (omega (arith, count, w.if-i-len.true))
      | goal.then-i-len-via-else-i-len+then-not-ended w ↦
          post_disabled c.self.inside.book c.self.inside.drawn xs c.self.invariant c.args.i w.index.result.now
          (slice_get_read xs c.len.result c.args.i _ count w.if-i-len.false w.index.ensures)
          (sym w.if-not-ended.ensures)
    ])

-- the world after the post, where the round changes
anew : (c : goal.After-self-then-ne-1) → Leaves c.self.inside.book c.self.inside.drawn c.self.inside.instances.items (Post c.args.i) c.post.new.book 0 (slice_set c.self.inside.instances.items c.args.i c.post.new.self)
anew c =
    let xs = c.self.inside.instances.items in
    let count : c.len.result ≡ length xs = c.len.ensures ∙ c.self.inside.instances.ok.0 in
    let same : c.index.result.now ≡ c.index_mut.result.now = same_at xs c.len.result c.args.i _ _ count c.if-i-len.false c.index.ensures c.index_mut.ensures.value in
    posted_anew c.worlds_stand.ensures c.tables_stay.ensures c.self.inside.book c.self.inside.drawn xs c.self.invariant c.args.i c.index_mut.result.now
    (slice_get_read xs c.len.result c.args.i _ count c.if-i-len.false c.index_mut.ensures.value)
    (subst (λ (x : InstanceOf). is_over x.plan x.going ≡ true) same (sym c.if-not-ended.ensures))
    c.post.new.book c.in_ok-post.ensures.posted c.post.new.self c.in_ok-post.ensures.left c.round_of-before.result c.round_of.result c.round_of-before.ensures c.round_of.ensures (sym c.if-ne.ensures)

-- and where it stays
on : (c : goal.Else-ne) → Leaves c.self.inside.book c.self.inside.drawn c.self.inside.instances.items (Post c.args.i) c.post.new.book c.self.inside.drawn (slice_set c.self.inside.instances.items c.args.i c.post.new.self)
on c =
    let xs = c.self.inside.instances.items in
    let count : c.len.result ≡ length xs = c.len.ensures ∙ c.self.inside.instances.ok.0 in
    let same : c.index.result.now ≡ c.index_mut.result.now = same_at xs c.len.result c.args.i _ _ count c.if-i-len.false c.index.ensures c.index_mut.ensures.value in
    posted_on c.worlds_stand.ensures c.tables_stay.ensures c.self.inside.book c.self.inside.drawn xs c.self.invariant c.args.i c.index_mut.result.now
    (slice_get_read xs c.len.result c.args.i _ count c.if-i-len.false c.index_mut.ensures.value)
    (subst (λ (x : InstanceOf). is_over x.plan x.going ≡ true) same (sym c.if-not-ended.ensures))
    c.post.new.book c.in_ok-post.ensures.posted c.post.new.self c.in_ok-post.ensures.left c.round_of-before.result c.round_of.result c.round_of-before.ensures c.round_of.ensures (sym c.if-ne.ensures)

pub invariant_of-self-then-ne : goal.invariant_of-self-then-ne
invariant_of-self-then-ne c = (anew c).stands

pub invariant_of-self-else-ne : goal.invariant_of-self-else-ne
invariant_of-self-else-ne c = (on c).stands

pub returns-then-ne-clause-done : goal.returns-then-ne-clause-done
returns-then-ne-clause-done c = λ did. rw (← c.self.view_is) (anew c).happens

pub returns-else-ne-clause-done : goal.returns-else-ne-clause-done
returns-else-ne-clause-done c = λ did. rw (← c.self.view_is) (on c).happens
