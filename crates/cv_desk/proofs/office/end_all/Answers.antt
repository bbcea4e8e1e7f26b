use Rattle.std.proofs.Common.{◌≡◌, List, [], ◌∷◌, ◌++◌, length, refl, sym, ap, subst, ◌∙◌, append_assoc, append-nil, arith}
use Rattle.std.specs.List.{AllByRecursion}
use Rattle.std.specs.Vec.Iter.{into_iter_items}
use Rattle.cv_desk.proofs.Ending.{HasTaken, alone, one_taken, some_pass}
use Rattle.cv_desk.proofs.office.end_all.Goals as goal
use Rattle.cv_desk.specs.Openings.{opening_of}
use Rattle.cv_desk.specs.Passes.{AreDone, IsDone, Sight}

-- what holds of each holds of one in the middle
all_mid : (P : Sight → Type 0) (xs : List Sight) (x : Sight) (ys : List Sight) → AllByRecursion P (xs ++ x ∷ ys) → P x
all_mid P [] x ys all = all.0
all_mid P (y ∷ xs) x ys all = all_mid P xs x ys all.1

nothing_left : (l : List Sight) → length l ≡ 0 → l ≡ []
nothing_left [] h = refl
nothing_left (x ∷ xs) h = absurd (omega arith)

-- src/office.rt
pub end-requires-clause-done : goal.end-requires-clause-done
end-requires-clause-done g c =
    let at = c.loop-pass in
    let s = c.requires.done.0 in
    let middle = ap (λ l. at.yielded ++ l) (sym c.in-Some.ensures.steps.0) ∙ (at.invariant.0 ∙ c.into_iter-pass-iterator.ensures.into_iter_gives.0) in
    let one = all_mid (IsDone s) at.yielded c.in-Some.pass (into_iter_items c.next.new.self) (subst (λ l. AllByRecursion (IsDone s) l) (sym middle) c.requires.done.1.each) in
    let here = subst (λ v. IsDone s v) (sym c.pass.view_is) one in
    (c.pass.invariant.2.settled, (opening_of s, here.of, here.idle))

pub loop-pass-preserved : goal.loop-pass-preserved
loop-pass-preserved g c =
    let at = c.loop-pass in
    let x = c.in-Some.pass in
    let rest = into_iter_items c.next.new.self in
    let middle = ap (λ l. at.yielded ++ l) (sym c.in-Some.ensures.steps.0) ∙ at.invariant.0 in (
      append_assoc at.yielded (x ∷ []) rest ∙ middle,
      (let was = at.invariant.1 in
          let gone = c.in-Some.ensures.steps.1 in
          let short = ap (λ l. length l) c.in-Some.ensures.steps.0 in
          omega arith),
      c.end.ensures.master.0 ∙ at.invariant.2,
      c.end.ensures.master.2 ∙ at.invariant.3,
      c.end.ensures.known ∙ at.invariant.4,
      λ s done.
          let one = all_mid (IsDone s) at.yielded x rest (subst (λ l. AllByRecursion (IsDone s) l) (sym middle) done.each) in
          let here = subst (λ v. IsDone s v) (sym c.pass.view_is) one in
          subst (λ v. HasTaken s c.args.master.now.me.0 (at.yielded ++ v ∷ []) c.end.new.master.me.0) c.pass.view_is
          (one_taken c.renewed_stays.ensures s c.args.master.now.me.0 at.yielded at.master.me.0 c.pass.inside.seat.me.0 c.end.new.master.me.0 (at.invariant.5 s done) here c.pass.inside.worker c.pass.invariant.2.role
          c.end.ensures.told c.end.ensures.ended c.end.ensures.known),
    )

pub returns-clause-alone : goal.returns-clause-alone
returns-clause-alone g c = λ s done.
    let at = c.loop-pass in
    let gives = c.into_iter-pass-iterator.ensures.into_iter_gives.0 in
    let empty : into_iter_items at.pass-iterator ≡ [] = nothing_left (into_iter_items at.pass-iterator) (sym at.invariant.1 ∙ c.in-None.ensures.steps.0) in
    let all = sym (append-nil at.yielded) ∙ (ap (λ l. at.yielded ++ l) (sym empty) ∙ (at.invariant.0 ∙ gives)) in
    alone s c.args.master.now.me.0 c.args.passes.items at.master.me.0
    (subst (λ l. HasTaken s c.args.master.now.me.0 l at.master.me.0) all (at.invariant.5 s (subst (λ l. AreDone s l) (sym gives) done)))
    done (some_pass s c.args.passes.items done)
