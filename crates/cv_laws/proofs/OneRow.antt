-- Adopted versions that are all one version: one row, and copies of one table.
use Rattle.std.proofs.Common.{◌≡◌, ◌≤◌, ℕ, zero, suc, List, [], ◌∷◌, ◌++◌, length, replicate, Some, refl, sym, ap, ◌∙◌, arith}
use Rattle.std.proofs.lemmas.List.{append-nil, length-replicate}
use Rattle.std.specs.Prelude.{slice_get}
use Rattle.std.specs.List.{AllByRecursion}
use Rattle.cv_base.specs.declared.entries.Adopted.{Adopted}
use Rattle.cv_histories.specs.Honest.{AreTables, IsJoined}
use Rattle.cv_histories.specs.Rows.{written}
use Rattle.cv_runs.specs.PatchedRun.{Table}

-- ---- one row

-- a row, written out
length_copies : (n v : ℕ) → length (replicate n v ++ []) ≡ n
length_copies n v = simp (append-nil, length-replicate)

-- joined versions that are all one version
pub one_row : (v n : ℕ) (adopted : List Adopted) → IsJoined adopted → AllByRecursion (λ (a : Adopted). a.version ≡ v) adopted → length (written adopted) ≡ n → 1 ≤ n → adopted ≡ record { version = v; entries = n } ∷ []
one_row v n [] joined all count some = absurd (omega arith)
one_row v n (a ∷ []) joined all count some =
    let version : a.version ≡ v = all.0 in
    let entries : a.entries ≡ n = sym (length_copies a.entries a.version) ∙ count in
    let row : record { version = a.version; entries = a.entries } ≡ record { version = v; entries = n } = cc in
    ap (λ (r : Adopted). r ∷ []) row
one_row v n (a ∷ b ∷ rest) joined all count some = absurd (joined.1 (all.0 ∙ sym all.1.0))

-- ---- written out

-- copies of a version in front
copies_of : (v n w : ℕ) (rest : List ℕ) → w ≡ v → AllByRecursion (λ (x : ℕ). x ≡ v) rest → AllByRecursion (λ (x : ℕ). x ≡ v) (replicate n w ++ rest)
copies_of v zero w rest is all = all
copies_of v (suc n) w rest is all = (is, copies_of v n w rest is all)

-- rows that are all one version
pub all_written : (v : ℕ) (adopted : List Adopted) → AllByRecursion (λ (a : Adopted). a.version ≡ v) adopted → AllByRecursion (λ (w : ℕ). w ≡ v) (written adopted)
all_written v [] all = tt
all_written v (a ∷ rest) all = copies_of v a.entries a.version (written rest) all.0 (all_written v rest all.1)

-- ---- their tables

-- of one row, in front of others
pub row_tables : (versions : List Table) (v : ℕ) (t : Table) (n : ℕ) (vs : List ℕ) (ts : List Table) → slice_get versions v ≡ Some t → AreTables versions vs ts → AreTables versions (replicate n v ++ vs) (replicate n t ++ ts)
row_tables versions v t zero vs ts at are = are
row_tables versions v t (suc n) vs ts at are = (at, row_tables versions v t n vs ts at are)

-- of versions that are all one: copies of its table
pub all_tables : (versions : List Table) (v : ℕ) (t : Table) → slice_get versions v ≡ Some t → (ws : List ℕ) (ts : List Table) → AreTables versions ws ts → AllByRecursion (λ (w : ℕ). w ≡ v) ws → AllByRecursion (λ (x : Table). x ≡ t) ts
all_tables versions v t at [] [] are all = tt
all_tables versions v t at [] (x ∷ ts) are all = absurd are
all_tables versions v t at (w ∷ ws) [] are all = tt
all_tables versions v t at (w ∷ ws) (x ∷ ts) are all =
    let here : Some x ≡ Some t = sym are.0 ∙ ap (slice_get versions) all.0 ∙ at in
    (cc, all_tables versions v t at ws ts are.1 all.1)

-- there is a table for each version
pub count_tables : (versions : List Table) (ws : List ℕ) (ts : List Table) → AreTables versions ws ts → length ts ≡ length ws
count_tables versions [] [] are = refl
count_tables versions [] (x ∷ ts) are = absurd are
count_tables versions (w ∷ ws) [] are = absurd are
count_tables versions (w ∷ ws) (x ∷ ts) are = ap suc (count_tables versions ws ts are.1)
