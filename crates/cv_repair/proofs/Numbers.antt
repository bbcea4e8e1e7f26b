-- The repairs of some candidates, from their numbers.
use Rattle.std.proofs.Common.{◌≡◌, ℕ, ◌<◌, List, [], ◌∷◌, ◌++◌, ◌∙◌, Option, Some, refl, sym, ap, length, get_or, append_assoc}
use Rattle.std.proofs.lemmas.List.{map-append}
use Rattle.std.proofs.lemmas.List.Folds.{flat_map-map}
use Rattle.std.proofs.lemmas.Option.{slice_get_read}
use Rattle.std.specs.List.{AllByRecursion, flat_map}
use Rattle.std.specs.Prelude.{slice_get}
use Rattle.cv_base.specs.declared.invariants.Invariant.{Invariant}
use Rattle.cv_base.specs.declared.cases.Repair.{Repair}
use Rattle.cv_base.specs.declared.patches.Action.{Action}
use Rattle.cv_base.specs.Picture.{Picture}
use Rattle.cv_histories.specs.Repairs.{Judged, actions_of, sets_of, skips_of, early_returns, repairs_for}
use Rattle.cv_isa.specs.Instruction.{Instruction}
use Rattle.cv_runs.specs.Invariants.{point_of}
use Rattle.cv_runs.specs.Text.{inst_at}
use Rattle.cv_repair.specs.Chosen.{AreChosen}
use Rattle.cv_repair.specs.Numbered.{repairs_by, repairs_at}

-- the repairs for three lists of actions, one behind the other
three_parts : (x : ℕ) (old : List Repair) (a b c : List Action) → ((old ++ repairs_by x a) ++ repairs_by x b) ++ repairs_by x c ≡ old ++ repairs_by x (a ++ b ++ c)
three_parts x old a b c = simp (map-append, append_assoc)

module _ (image : Picture) (candidates : List Invariant) where
  -- sets, skip and early return of a candidate, added one after another
  module _ (x : ℕ) (k : Invariant) (within : x < length candidates) (read : k ≡ get_or candidates x k) (old with_sets with_skip : List Repair) where
    pub all_added : (p : ℕ) (i : Option Instruction) → p ≡ point_of k → i ≡ inst_at image p → with_sets ≡ old ++ repairs_by x (sets_of image k) → with_skip ≡ with_sets ++ repairs_by x (skips_of k i)
        → with_skip ++ repairs_by x (early_returns candidates k) ≡ old ++ repairs_at image candidates x (slice_get candidates x)
    all_added p i at is sets skip =
        ap (λ l. l ++ repairs_by x (early_returns candidates k)) (skip ∙ ap (λ o. with_sets ++ repairs_by x (skips_of k o)) (is ∙ ap (inst_at image) at) ∙ ap (λ l. l ++ repairs_by x (skips_of k (inst_at image (point_of k)))) sets)
        ∙ three_parts x old (sets_of image k) (skips_of k (inst_at image (point_of k))) (early_returns candidates k)
        ∙ ap (λ o. old ++ repairs_at image candidates x o) (sym (slice_get_read candidates (length candidates) x k refl within read))

  for_judged : (judged : List Judged) → AllByRecursion (λ (j : Judged). slice_get candidates j.index ≡ Some j.invariant) judged → flat_map (λ (j : Judged). repairs_at image candidates j.index (slice_get candidates j.index)) judged ≡ repairs_for image candidates judged
  for_judged [] each = refl
  for_judged (j ∷ js) each =
      rw each.0 (ap (λ l. repairs_by j.index (actions_of image candidates j.invariant) ++ l) (for_judged js each.1))

  pub for_chosen : (chosen : List ℕ) (judged : List Judged) → AreChosen candidates chosen judged → flat_map (λ (x : ℕ). repairs_at image candidates x (slice_get candidates x)) chosen ≡ repairs_for image candidates judged
  for_chosen chosen judged are =
      ap (flat_map (λ (x : ℕ). repairs_at image candidates x (slice_get candidates x))) (sym are.numbers)
      ∙ flat_map-map (λ (x : ℕ). repairs_at image candidates x (slice_get candidates x)) (λ (j : Judged). j.index) judged
      ∙ for_judged judged are.invariants
