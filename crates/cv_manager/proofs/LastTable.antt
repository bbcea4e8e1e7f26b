-- The table of an entry's last adopted version, and that of the last version.
use Rattle.std.proofs.Common.{◌≡◌, ◌<◌, ◌≤◌, ℕ, suc, ◌-◌, List, [], ◌∷◌, length, get_or, Option, Some, refl, sym, ap, ◌∙◌, arith}
use Rattle.std.specs.Prelude.{map, option_map, slice_get, unwrap_or}
use Rattle.std.proofs.lemmas.List.{length-map}
use Rattle.std.proofs.lemmas.Option.{slice_get-get_or, slice_get-map, slice_get_past}
use Rattle.cv_base.specs.declared.entries.Adopted.{Adopted}
use Rattle.cv_histories.specs.Seen.{last_version, table_at}
use Rattle.cv_histories.specs.Versions.{newest_of}
use Rattle.cv_runs.specs.PatchedRun.{Table}

-- the version of the last of some adopted ones
last_version_is : (adopted : List Adopted) → last_version adopted ≡ option_map (λ (a : Adopted). a.version) (slice_get adopted (length adopted - 1))
last_version_is [] = refl
last_version_is (a ∷ []) = refl
last_version_is (a ∷ b ∷ rest) =
    let place : suc (length (b ∷ rest) - 1) ≡ length (a ∷ b ∷ rest) - 1 = omega arith in
    last_version_is (b ∷ rest) ∙ ap (λ (n : ℕ). option_map (λ (a : Adopted). a.version) (slice_get (a ∷ b ∷ rest) n)) place

module _ {X : Type 0} (view : X → Table) (kept : List X) (versions : List Table) (same : map view kept ≡ versions) (adopted : List Adopted) (a : Adopted) (last : Some a ≡ slice_get adopted (length adopted - 1)) where
  -- the table, read from what keeps the tables
  table_is : table_at versions (last_version adopted) ≡ unwrap_or (option_map view (slice_get kept a.version)) []
  table_is =
      ap (table_at versions) (last_version_is adopted ∙ ap (option_map (λ (a : Adopted). a.version)) (sym last))
      ∙ ap (λ (ts : List Table). table_at ts (Some a.version)) (sym same)
      ∙ ap (λ (o : Option Table). unwrap_or o []) (slice_get-map view kept a.version)

  pub found : (x : X) → a.version < length kept → x ≡ get_or kept a.version x → view x ≡ table_at versions (last_version adopted)
  found x within is = sym (table_is ∙ ap (λ (o : Option X). unwrap_or (option_map view o) []) (slice_get-get_or kept a.version x within ∙ ap Some (sym is)))

  pub not_found : length kept ≤ a.version → [] ≡ table_at versions (last_version adopted)
  not_found past = sym (table_is ∙ ap (λ (o : Option X). unwrap_or (option_map view o) []) (slice_get_past kept a.version past))

-- the last version, read from what keeps the tables
pub newest_is : {X : Type 0} (view : X → Table) (kept : List X) (versions : List Table) → map view kept ≡ versions → (x : X) → Some x ≡ slice_get kept (length kept - 1) → view x ≡ newest_of versions
newest_is view kept versions same x last =
    sym
    (ap newest_of (sym same)
    ∙ ap (λ (n : ℕ). unwrap_or (slice_get (map view kept) (n - 1)) []) (length-map kept view)
    ∙ ap (λ (o : Option Table). unwrap_or o []) (slice_get-map view kept (length kept - 1) ∙ ap (option_map view) (sym last)))
