-- The derived equality of patches is that of the numbers that tell them apart.
use Rattle.std.proofs.Common.{◌≡◌, ℕ, Bool, ◌&&◌, List, [], ◌∷◌, ◌∙◌, refl, sym, ap, nat_eq}
use Rattle.std.proofs.Math.Bool.{and_assoc, and-true, and-false}
use Rattle.std.specs.Prelude.{◌==◌}
use Rattle.std.specs.Cmp.Lexicographic.{pointwise}
use Rattle.cv_base.specs.contracts.invariants.InvariantPartialEq.TheImpl as invariant
use Rattle.cv_base.specs.contracts.patches.ActionPartialEq.TheImpl as action
use Rattle.cv_base.specs.contracts.patches.PatchPartialEq.TheImpl as patch
use Rattle.cv_base.specs.declared.invariants.Invariant.{Invariant}
use Rattle.cv_base.specs.declared.invariants.Invariant.TheVariants.{OneOf, Lower, LessThan, SpOffset}
use Rattle.cv_base.specs.declared.patches.Action.{Action}
use Rattle.cv_base.specs.declared.patches.Action.TheVariants.{SetConst, SetCopy, SetSp, Skip, Return}
use Rattle.cv_base.specs.declared.patches.Patch.{Patch}
use Rattle.cv_base.specs.declared.patches.Patch.TheVariants.{Check, Enforce}
use Rattle.cv_histories.specs.Versions.{action_key, same_numbers, same_patch, same_table}
use Rattle.cv_runs.specs.Invariants.{key, point_of}
use Rattle.cv_manager.proofs.tables.same_table.Goals as goal

values_agree : (xs ys : List ℕ) → pointwise nat_eq xs ys ≡ same_numbers xs ys
values_agree [] [] = refl
values_agree [] (y ∷ ys) = refl
values_agree (x ∷ xs) [] = refl
values_agree (x ∷ xs) (y ∷ ys) = ap (λ (b : Bool). (x == y) && b) (values_agree xs ys)

invariants_agree : (k l : Invariant) → invariant.eq-value.it k l ≡ same_numbers (key k) (key l)
invariants_agree (OneOf p r v) (OneOf q s w) = ap (λ (b : Bool). (p == q) && ((r == s) && b)) (values_agree v w)
invariants_agree (Lower p r v) (Lower q s w) = ap (λ (b : Bool). (p == q) && ((r == s) && b)) (sym (and-true (v == w)))
invariants_agree (LessThan p r v) (LessThan q s w) = ap (λ (b : Bool). (p == q) && ((r == s) && b)) (sym (and-true (v == w)))
invariants_agree (SpOffset p r) (SpOffset q s) = ap (λ (b : Bool). (p == q) && b) (sym (and-true (r == s)))
invariants_agree k l = sym (and-false (point_of k == point_of l))

actions_agree : (a b : Action) → action.eq-value.it a b ≡ same_numbers (action_key a) (action_key b)
actions_agree (SetConst r v) (SetConst s w) = ap (λ (b : Bool). (r == s) && b) (sym (and-true (v == w)))
actions_agree (SetCopy r v) (SetCopy s w) = ap (λ (b : Bool). (r == s) && b) (sym (and-true (v == w)))
actions_agree (SetSp v) (SetSp w) = sym (and-true (v == w))
actions_agree Skip Skip = refl
actions_agree (Return v) (Return w) = sym (and-true (v == w))
actions_agree a b = refl

patches_agree : (p q : Patch) → patch.eq-value.it p q ≡ same_patch p q
patches_agree (Check c x k) (Check d y l) =
    ap (λ (b : Bool). (c == d) && ((x == y) && b)) (invariants_agree k l) ∙ sym (and_assoc (c == d) (x == y) (same_numbers (key k) (key l)))
patches_agree (Enforce c x k a) (Enforce d y l b) =
    let ka = same_numbers (key k) (key l) in
    let aa = same_numbers (action_key a) (action_key b) in
    ap (λ (same : Bool). (c == d) && ((x == y) && (same && action.eq-value.it a b))) (invariants_agree k l)
    ∙ ap (λ (b : Bool). (c == d) && ((x == y) && (ka && b))) (actions_agree a b)
    ∙ sym (and_assoc ((c == d) && (x == y)) ka aa ∙ and_assoc (c == d) (x == y) (ka && aa))
patches_agree p q = refl

tables_agree : (ps qs : List Patch) → pointwise patch.eq-value.it ps qs ≡ same_table ps qs
tables_agree [] [] = refl
tables_agree [] (q ∷ qs) = refl
tables_agree (p ∷ ps) [] = refl
tables_agree (p ∷ ps) (q ∷ qs) =
    ap (λ (b : Bool). b && pointwise patch.eq-value.it ps qs) (patches_agree p q) ∙ ap (λ (b : Bool). same_patch p q && b) (tables_agree ps qs)

pub returns : goal.returns
returns c = c.eq.ensures ∙ tables_agree c.a.inside.patches c.b.inside.patches ∙ ap (λ ps. same_table ps c.b.inside.patches) c.a.view_is ∙ ap (same_table c.args.a.now) c.b.view_is
