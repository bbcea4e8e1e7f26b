use Rattle.std.proofs.Common.{◌≡◌, ℕ, List, ap, ◌∙◌, sym}
use Rattle.std.specs.Cmp.Lexicographic.{slice_cmp, bytes_decides}
use Rattle.std.specs.Ordering.{nat_cmp, is_eq}
use Rattle.std.specs.declared.cmp.Ordering.TheVariants.{Equal}
use Rattle.std.proofs.lemmas.Map.Text.{is_eq-slice_cmp}
use Rattle.cv_base.specs.declared.invariants.Invariant.{Invariant}
use Rattle.cv_base.specs.declared.invariants.Invariant.TheVariants.{OneOf, Lower, LessThan, SpOffset}
use Rattle.cv_runs.specs.Invariants.{key}
use Rattle.cv_inv.proofs.ordering.equal_order_is_equality.Goals as goal

same_list : (xs ys : List ℕ) → slice_cmp nat_cmp xs ys ≡ Equal → xs ≡ ys
same_list xs ys e = (bytes_decides xs ys).0 (sym (is_eq-slice_cmp xs ys) ∙ ap is_eq e)

-- the key tells invariants apart
same_key : (a b : Invariant) → key a ≡ key b → a ≡ b
same_key (OneOf p r v) (OneOf q s w) e = cc
same_key (OneOf p r v) (Lower q s w) e = cc
same_key (OneOf p r v) (LessThan q s w) e = cc
same_key (OneOf p r v) (SpOffset q s) e = cc
same_key (Lower p r v) (OneOf q s w) e = cc
same_key (Lower p r v) (Lower q s w) e = cc
same_key (Lower p r v) (LessThan q s w) e = cc
same_key (Lower p r v) (SpOffset q s) e = cc
same_key (LessThan p r v) (OneOf q s w) e = cc
same_key (LessThan p r v) (Lower q s w) e = cc
same_key (LessThan p r v) (LessThan q s w) e = cc
same_key (LessThan p r v) (SpOffset q s) e = cc
same_key (SpOffset p r) (OneOf q s w) e = cc
same_key (SpOffset p r) (Lower q s w) e = cc
same_key (SpOffset p r) (LessThan q s w) e = cc
same_key (SpOffset p r) (SpOffset q s) e = cc

pub returns : goal.returns
returns c = λ a b e. same_key a b (same_list (key a) (key b) e)
