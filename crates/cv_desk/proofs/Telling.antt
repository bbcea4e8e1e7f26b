-- What notes, loads and adds make of the desk and of a pass.
use Rattle.std.proofs.Common.{◌≡◌, ℕ, zero, suc, List, [], ◌∷◌, ◌++◌, Option, Some, None, refl, sym, ap, ◌∙◌, subst, arith}
use Rattle.std.specs.Prelude.{reverse, slice_get}
use Rattle.std.proofs.lemmas.List.{append-nil}
use mathlib.Core.List.{IsPrefix}
use Rattle.cv_desk.specs.Passes.{HasGrown, Sight}
use Rattle.cv_desk.specs.Standing.{GoesOn, IsDesk}
use Rattle.cv_desk.specs.declared.making.Making.{Making}
use Rattle.cv_manager.specs.ManagerOf.{ManagerOf}
use Rattle.cv_office.specs.Told.{IsMaster, IsToldBoth}
use Rattle.cv_rule.specs.Counts.{entry_with}
use Rattle.cv_rule.specs.Laws.{LongerBegins}
use Rattle.cv_rule.specs.Steps.{joined, merging, note_of, renewed, settled, settled_by}
use Rattle.cv_rule.specs.declared.view.Known.{Known}
use Rattle.cv_rule.specs.declared.view.Posted.{Posted}
use Rattle.cv_runs.specs.PatchedRun.{Table}

-- ---- lists

-- what stands in the beginning of a list stands in the list
in_front : {A : Type 0} (xs ys : List A) (k : ℕ) (x : A) → slice_get xs k ≡ Some x → slice_get (xs ++ ys) k ≡ Some x
in_front [] ys zero x is = absurd cc
in_front [] ys (suc k) x is = absurd cc
in_front (y ∷ xs) ys zero x is = is
in_front (y ∷ xs) ys (suc k) x is = in_front xs ys k x is

pub prefix_get : {A : Type 0} (xs ys : List A) (k : ℕ) (x : A) → IsPrefix xs ys → slice_get xs k ≡ Some x → slice_get ys k ≡ Some x
prefix_get xs ys k x p is = subst (λ (l : List _). slice_get l k ≡ Some x) p.1 (in_front xs p.0 k x is)

-- ---- loads keep who is absent

settled_absent : (v : Sight) (draw : ℕ) (found : Option Posted) → (settled v draw found).absent ≡ v.absent
settled_absent v draw None = refl
settled_absent v draw (Some t) = refl

settled_by_absent : (v : Sight) (way : Option ℕ) → (settled_by v way).absent ≡ v.absent
settled_by_absent v None = refl
settled_by_absent v (Some draw) = settled_absent v draw (entry_with draw v.known.posted)

pub renewed_absent : (v : Sight) → (renewed v).absent ≡ v.absent
renewed_absent v = settled_by_absent (merging v) v.on_its_way

-- ---- the desk

-- a desk stays one where the master knows the same, with an empty hand and nobody absent
pub desk_stays : (book : ManagerOf) (v w : Sight) → IsDesk book v → IsMaster w → w.known ≡ v.known → w.absent ≡ v.absent → IsDesk book w
desk_stays book v w d empty known absent = record {
  setting = d.setting;
  is_setting = d.is_setting;
  opening = ap (λ (k : Known Making Table). k.opening) known ∙ d.opening;
  plan = d.plan;
  empty = empty;
  present = absent ∙ d.present;
  versions = ap (λ (k : Known Making Table). k.versions) known ∙ d.versions;
  entries = subst (λ (k : Known Making Table). GoesOn d.setting book.past (reverse k.posted)) (sym known) d.entries;
}

-- ---- the pass

-- the master's list of versions begins that of a pass that was told
pub told_front : (p m : Sight) → IsToldBoth (joined p (note_of m [])) → IsPrefix m.known.versions (renewed (joined p (note_of m []))).known.versions
told_front p m told = told.1.versions_beside
