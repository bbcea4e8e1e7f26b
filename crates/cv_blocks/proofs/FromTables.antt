-- What the tables of a map say of the image that it shows.
use Rattle.std.proofs.Common.{◌≡◌, ℕ, ◌+◌, ◌*◌, ◌<◌, List, length, get_or, sym, ap, ◌∙◌, subst}
use Rattle.std.specs.List.Sorted.{IsPermutation}
use Rattle.cv_base.specs.Picture.{Picture}
use Rattle.cv_isa.specs.declared.registers.RegSet.{RegSet}
use Rattle.cv_isa.specs.Uses.{has}
use Rattle.cv_runs.specs.Text.{beginnings, proc_of, proc_end}
use Rattle.cv_blocks.specs.Bounds.{IsGreatestUpTo, IsLeastAbove}
use Rattle.cv_blocks.specs.TextMap.{is_in_window, AreWindows}
use Rattle.cv_blocks.proofs.Bounds.{fold_of_greatest, fold_of_least}

module _ (image listing : Picture) (shown : listing ≡ image) where
  pub set_of_window : (sets : List RegSet) (k p : ℕ) (set : RegSet) → AreWindows listing (length listing.words) sets → k < length listing.words → listing.text_base + 4 * k ≡ p → set ≡ get_or sets k set → (r : ℕ) → has set r ≡ is_in_window image p r
  set_of_window sets k p set are within at is r =
      ap (λ (s : RegSet). has s r) is
      ∙ are.each k set within r
      ∙ ap (λ (n : ℕ). is_in_window listing n r) at
      ∙ ap (λ (i : Picture). is_in_window i p r) shown

  starts_shown : (starts slice : List ℕ) → slice ≡ starts → IsPermutation (beginnings listing) starts → IsPermutation (beginnings image) slice
  starts_shown starts slice same is =
      subst (λ (i : Picture). IsPermutation (beginnings i) slice) shown (subst (λ (l : List ℕ). IsPermutation (beginnings listing) l) (sym same) is)

  pub name_of_procedure : (starts slice : List ℕ) (p m : ℕ) → slice ≡ starts → IsPermutation (beginnings listing) starts → IsGreatestUpTo slice p m → m ≡ proc_of image p
  name_of_procedure starts slice p m same is last =
      sym (fold_of_greatest (beginnings image) slice p m (starts_shown starts slice same is) last)

  pub end_of_procedure : (starts slice : List ℕ) (p end m : ℕ) → slice ≡ starts → IsPermutation (beginnings listing) starts → end ≡ image.text_base + 4 * length image.words → IsLeastAbove slice p end m → m ≡ proc_end image p
  end_of_procedure starts slice p end m same is at first =
      let limit = image.text_base + 4 * length image.words in
      let least : IsLeastAbove slice p limit m = subst (λ (n : ℕ). IsLeastAbove slice p n m) at first in
      sym (fold_of_least (beginnings image) slice p limit m (starts_shown starts slice same is) least)
