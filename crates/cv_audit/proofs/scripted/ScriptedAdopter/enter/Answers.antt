use Rattle.std.proofs.Common.{◌≡◌, ◌≢◌, ◌++◌, ◌∷◌, [], length, sym, subst, arith}
use Rattle.std.proofs.lemmas.Bool.{eqb-false, eqb-true}
use Rattle.std.proofs.lemmas.List.{nil_from_length}
use Rattle.cv_audit.specs.Scripted.{HasFollowed, Scripted}
use Rattle.cv_audit.proofs.Scripts.{none_left, row_ends, row_goes_on, used_below}
use Rattle.cv_audit.proofs.scripted.ScriptedAdopter.enter.Goals as goal

pub returns-then-is_empty-clause-answers : goal.returns-then-is_empty-clause-answers
returns-then-is_empty-clause-answers c = λ before followed.
    let s = c.self.inside in
    let none : length s.rest.now ≡ 0 = eqb-true (length s.rest.now) 0 (sym c.if-is_empty.ensures) in
    subst (λ (s : Scripted). HasFollowed s (before ++ c.self.inside.last ∷ [])) c.self.view_is
    (none_left _ before s.rest.now s.used s.last (nil_from_length s.rest.now none)
    (subst (λ (s : Scripted). HasFollowed s before) (sym c.self.view_is) followed))

pub overflow_add-self : goal.overflow_add-self
overflow_add-self c =
    let s = c.self.inside in
    let some : length s.rest.now ≢ 0 = eqb-false (length s.rest.now) 0 (sym c.if-is_empty.ensures) in
    let below = used_below s.rest.now c.first-row.result s.used (omega arith) c.first-row.ensures c.self.invariant.some_left in
    omega arith

pub returns-then-self-row-clause-answers : goal.returns-then-self-row-clause-answers
returns-then-self-row-clause-answers c = λ before followed.
    let s = c.self.inside in
    let some : length s.rest.now ≢ 0 = eqb-false (length s.rest.now) 0 (sym c.if-is_empty.ensures) in
    row_ends _ before s.rest.now c.behind_first-self-inside.result.now c.first-row.result s.used (omega arith) c.behind_first-self-inside.ensures c.first-row.ensures c.if-self-row.true c.self.invariant.some_left
    (subst (λ (s : Scripted). HasFollowed s before) (sym c.self.view_is) followed)

pub returns-else-self-row-clause-answers : goal.returns-else-self-row-clause-answers
returns-else-self-row-clause-answers c = λ before followed.
    let s = c.self.inside in
    let some : length s.rest.now ≢ 0 = eqb-false (length s.rest.now) 0 (sym c.if-is_empty.ensures) in
    row_goes_on _ before s.rest.now c.first-row.result s.used (omega arith) c.first-row.ensures c.self.invariant.some_left
    (subst (λ (s : Scripted). HasFollowed s before) (sym c.self.view_is) followed)
