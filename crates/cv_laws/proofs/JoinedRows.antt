-- Rows whose neighbours have different versions are the joined form of what they write out.
use Rattle.std.proofs.Common.{◌≡◌, ◌≢◌, ◌≤◌, ◌+◌, ℕ, suc, zero, Bool, false, List, [], ◌∷◌, ◌++◌, replicate, refl, sym, ap, ◌∙◌, arith}
use Rattle.std.specs.Prelude.{◌==◌, if◌then◌else◌, reverse}
use Rattle.std.proofs.lemmas.Bool.{eq-eqb}
use Rattle.std.proofs.lemmas.Bool.Decides.{nat_tests}
use Rattle.std.proofs.lemmas.List.{reverse-append, reverse-reverse}
use Rattle.cv_base.specs.declared.entries.Adopted.{Adopted}
use Rattle.cv_histories.specs.Honest.{IsJoined}
use Rattle.cv_histories.specs.Rows.{written}
use Rattle.cv_histories.specs.Flight.{joined, joined_on}
use Rattle.cv_laws.proofs.VersionTables.{one_more, reversed_joined, written_last}
use Rattle.cv_laws.specs.Statements.{RowsAreJoined}

-- ---- joined again

-- a version is not that of the next row
abbrev Differs : ℕ → List Adopted → Type 0
Differs v [] = Unit {0}
Differs v (b ∷ rest) = v ≢ b.version

-- then it begins a row
new_row : (v : ℕ) (rest : List Adopted) → Differs v rest → joined_on v rest ≡ record { version = v; entries = 1 } ∷ rest
new_row v [] differs = refl
new_row v (b ∷ rest) differs =
    let no : b.version ≢ v = λ same. differs (sym same) in
    let test : (b.version == v) ≡ false = grind (arith, nat_tests) in
    ap (λ (same : Bool). if same then record { version = v; entries = b.entries + 1 } ∷ rest else record { version = v; entries = 1 } ∷ b ∷ rest) test

-- and the same version once more makes the row longer
longer_row : (v n : ℕ) (rest : List Adopted) → joined_on v (record { version = v; entries = n } ∷ rest) ≡ record { version = v; entries = n + 1 } ∷ rest
longer_row v n rest = ap (λ (same : Bool). if same then record { version = v; entries = n + 1 } ∷ rest else record { version = v; entries = 1 } ∷ record { version = v; entries = n } ∷ rest) (eq-eqb v v refl)

-- a row in front of others
row_again : (v n : ℕ) (vs : List ℕ) (rest : List Adopted) → joined vs ≡ rest → Differs v rest → joined (replicate (suc n) v ++ vs) ≡ record { version = v; entries = suc n } ∷ rest
row_again v zero vs rest is differs = ap (joined_on v) is ∙ new_row v rest differs
row_again v (suc n) vs rest is differs =
    let count : suc n + 1 ≡ suc (suc n) = omega arith in
    ap (joined_on v) (row_again v n vs rest is differs)
    ∙ longer_row v (suc n) rest
    ∙ ap (λ (k : ℕ). record { version = v; entries = k } ∷ rest) count

-- the rows behind the first one are joined, and it differs from them
record IsFirst (a : Adopted) (rest : List Adopted) : Type 0 where
  some : 1 ≤ a.entries
  differs : Differs a.version rest
  joined_rest : IsJoined rest

first_of_rows : (a : Adopted) (rest : List Adopted) → IsJoined (a ∷ rest) → IsFirst a rest
first_of_rows a [] is = record { some = is; differs = tt; joined_rest = tt }
first_of_rows a (b ∷ rest) is = record { some = is.0; differs = is.1; joined_rest = is.2 }

-- by its count
some_again : (v n : ℕ) (vs : List ℕ) (rest : List Adopted) → 1 ≤ n → joined vs ≡ rest → Differs v rest → joined (replicate n v ++ vs) ≡ record { version = v; entries = n } ∷ rest
some_again v zero vs rest some is differs = absurd (omega arith)
some_again v (suc n) vs rest some is differs = row_again v n vs rest is differs

-- what rows write out is joined to these rows
joined_again : (rows : List Adopted) → IsJoined rows → joined (written rows) ≡ rows
joined_again [] is = refl
joined_again (a ∷ rest) is =
    let first = first_of_rows a rest is in
    some_again a.version a.entries (written rest) rest first.some (joined_again rest first.joined_rest) first.differs

-- ---- the other way round

-- copies of one version
copies_turned : (n v : ℕ) → reverse (replicate n v) ≡ replicate n v
copies_turned zero v = refl
copies_turned (suc n) v =
    let count : n + 1 ≡ suc n = omega arith in
    reverse-append (v ∷ []) (replicate n v)
    ∙ ap (λ (vs : List ℕ). vs ++ v ∷ []) (copies_turned n v)
    ∙ sym (one_more n v)
    ∙ ap (λ (k : ℕ). replicate k v) count

-- what rows write out, the other way round
written_turned : (rows : List Adopted) → reverse (written rows) ≡ written (reverse rows)
written_turned [] = refl
written_turned (a ∷ rest) =
    reverse-append (replicate a.entries a.version) (written rest)
    ∙ ap (λ (vs : List ℕ). vs ++ reverse (replicate a.entries a.version)) (written_turned rest)
    ∙ ap (λ (vs : List ℕ). written (reverse rest) ++ vs) (copies_turned a.entries a.version)
    ∙ sym (written_last a rest)

-- the joined form of the versions that rows write out, the newest first, is these rows
pub rows_are_joined : RowsAreJoined
rows_are_joined rows is =
    ap (λ (vs : List ℕ). reverse (joined vs)) (written_turned rows)
    ∙ ap (λ (rows : List Adopted). reverse rows) (joined_again (reverse rows) (reversed_joined rows is))
    ∙ reverse-reverse rows
