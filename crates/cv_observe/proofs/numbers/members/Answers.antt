use Rattle.std.proofs.Common.{◌≡◌, ℕ, ◌<◌, [], ◌∷◌, ◌++◌, ◌∙◌, sym, rules}
use Rattle.std.proofs.lemmas.List.Elements.{All-push, All-nil}
use Rattle.cv_isa.specs.Uses.{has, members_of}
use Rattle.cv_observe.proofs.Members.{members_taken, members_left, members_end, members_all}
use Rattle.cv_observe.proofs.numbers.members.Goals as goal
use Rattle.cv_observe.proofs.numbers.members.Goals.{then-contains+in_ok-push, else-contains}

pub loop-r-init : goal.loop-r-init
loop-r-init c =
    let none : c.new-list.result.items ≡ [] = c.new-list.ensures.items in
    (rw none (members_all c.args.set), rw none (All-nil (λ (r : ℕ). r < 32)))

pub loop-r-preserved : goal.loop-r-preserved
loop-r-preserved c =
    elim c.if-contains.branch [
      | then-contains+in_ok-push w ↦
          let more : c.if-contains.list.items ≡ c.loop-r.list.items ++ c.loop-r.r ∷ [] = search rules in (
            members_taken (has c.args.set) c.loop-r.r c.loop-r.list.items c.if-contains.list.items (members_of c.args.set) c.loop-r-test.true (sym c.contains.ensures ∙ w.if-contains.true) more c.loop-r.invariant.0,
            rw more (All-push (λ (r : ℕ). r < 32) c.loop-r.list.items c.loop-r.r c.loop-r.invariant.1 c.loop-r-test.true),
          )
      | else-contains w ↦
          let same : c.if-contains.list.items ≡ c.loop-r.list.items = search rules in (
            members_left (has c.args.set) c.loop-r.r c.loop-r.list.items c.if-contains.list.items (members_of c.args.set) c.loop-r-test.true (sym c.contains.ensures ∙ w.if-contains.false) same c.loop-r.invariant.0,
            rw same c.loop-r.invariant.1,
          )
    ]

pub returns-clause-items : goal.returns-clause-items
returns-clause-items c =
    members_end (has c.args.set) c.loop-r.r c.loop-r.list.items (members_of c.args.set) c.loop-r-test.false c.loop-r.invariant.0
