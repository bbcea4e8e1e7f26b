-- The classes of a case's candidates, number by number.
use Rattle.std.proofs.Common.{◌≡◌, ◌<◌, ℕ, ◌+◌, List, [], ◌∷◌, ◌++◌, ◌∙◌, sym, ap, length, drop, append_assoc, refl, arith}
use Rattle.std.proofs.lemmas.List.{at_drop_more}
use Rattle.cv_base.specs.declared.cases.Class.{Class}
use Rattle.cv_base.specs.declared.invariants.Invariant.{Invariant}
use Rattle.cv_base.specs.declared.invariants.Invariant.TheVariants.{SpOffset}
use Rattle.cv_histories.specs.Classes.{class_over}
use Rattle.cv_histories.specs.Seen.{Seen}
use Rattle.cv_manager.specs.Progress.{classes_from}

-- the classes from a candidate on
pub one_more_class : (c : ℕ) (seen : List Seen) (ks : List Invariant) (before : List Class) (class : Class) (x : ℕ) → x < length ks → class ≡ class_over c x seen → before ++ classes_from c x seen (drop x ks) ≡ (before ++ class ∷ []) ++ classes_from c (x + 1) seen (drop (x + 1) ks)
one_more_class c seen ks before class x within is =
    ap (λ l. before ++ l) (at_drop_more (classes_from c x seen) ks x (SpOffset 0 0) within)
    ∙ ap (λ k. before ++ k ∷ classes_from c (x + 1) seen (drop (x + 1) ks)) (sym is)
    ∙ sym (append_assoc before (class ∷ []) (classes_from c (x + 1) seen (drop (x + 1) ks)))

pub as_many_classes : (c x : ℕ) (seen : List Seen) (ks : List Invariant) → length (classes_from c x seen ks) ≡ length ks
as_many_classes c x seen [] = refl
as_many_classes c x seen (k ∷ ks) = omega (arith, as_many_classes c (x + 1) seen ks)
