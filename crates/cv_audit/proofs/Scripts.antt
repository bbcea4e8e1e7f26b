-- A script that is answered one version after another.
use Rattle.std.proofs.Common.{◌≡◌, ◌<◌, ◌+◌, ◌-◌, ℕ, suc, List, [], ◌∷◌, ◌++◌, length, get_or, drop, replicate, refl, sym, ap, ◌∙◌, subst, arith}
use Rattle.std.proofs.Math.Nat.{sub-zero}
use Rattle.cv_base.specs.declared.entries.Adopted.{Adopted}
use Rattle.cv_histories.specs.Rows.{written}
use Rattle.cv_audit.specs.Scripted.{Follows, IsSomeLeft, left_of}
use Rattle.cv_audit.specs.Statements.{AgreeSoFar}

-- a script that is used up is followed by anything
pub follow_end : (script vs : List ℕ) (v : ℕ) → Follows script vs [] → Follows script (vs ++ v ∷ []) []
follow_end [] [] v follows = refl
follow_end (w ∷ script) [] v follows = absurd cc
follow_end [] (x ∷ vs) v follows = refl
follow_end (w ∷ script) (x ∷ vs) v follows = (follows.0, follow_end script vs v follows.1)

-- and else by what is left next
pub follow_on : (script vs : List ℕ) (w : ℕ) (left : List ℕ) → Follows script vs (w ∷ left) → Follows script (vs ++ w ∷ []) left
follow_on [] [] w left follows = absurd cc
follow_on (x ∷ script) [] w left follows =
    let same : w ≡ x = cc in
    let rest : left ≡ script = cc in
    (same, rest)
follow_on [] (y ∷ vs) w left follows = absurd cc
follow_on (x ∷ script) (y ∷ vs) w left follows = (follows.0, follow_on script vs w left follows.1)

-- what follows a script agrees with it
pub follows_agree : (script vs left : List ℕ) → Follows script vs left → AgreeSoFar script vs
follows_agree [] vs left follows = tt
follows_agree (w ∷ script) [] left follows = tt
follows_agree (w ∷ script) (v ∷ vs) left follows = (sym follows.0, follows_agree script vs left follows.1)

-- one answer of a row
one_answer : (n used v : ℕ) (more : List ℕ) → used < n → replicate (n - used) v ++ more ≡ v ∷ (replicate (n - (used + 1)) v ++ more)
one_answer n used v more some =
    let count : n - used ≡ suc (n - (used + 1)) = omega arith in
    ap (λ (k : ℕ). replicate k v ++ more) count

-- nothing of the first row is used
pub none_used : (xs : List Adopted) → left_of xs 0 ≡ written xs
none_used [] = refl
none_used (a ∷ rows) = rw sub-zero refl

abbrev pub no_row : Adopted
no_row = record { version = 0; entries = 0 }

-- the row goes on
pub row_goes_on : (script vs : List ℕ) (rest : List Adopted) (row : Adopted) (used : ℕ) → 0 < length rest → row ≡ get_or rest 0 no_row → IsSomeLeft rest used → Follows script vs (left_of rest used)
    → Follows script (vs ++ row.version ∷ []) (left_of rest (used + 1))
row_goes_on script vs [] row used some is left follows = absurd (omega arith)
row_goes_on script vs (a ∷ rest) row used some is left follows =
    subst (λ (r : Adopted). Follows script (vs ++ r.version ∷ []) (left_of (a ∷ rest) (used + 1))) (sym is)
    (follow_on script vs a.version (replicate (a.entries - (used + 1)) a.version ++ written rest)
    (subst (Follows script vs) (one_answer a.entries used a.version (written rest) left) follows))

-- or is used up
pub row_ends : (script vs : List ℕ) (rest after : List Adopted) (row : Adopted) (used : ℕ) → 0 < length rest → after ≡ drop 1 rest → row ≡ get_or rest 0 no_row → used + 1 ≡ row.entries → IsSomeLeft rest used → Follows script vs (left_of rest used)
    → Follows script (vs ++ row.version ∷ []) (left_of after 0)
row_ends script vs [] after row used some is at last left follows = absurd (omega arith)
row_ends script vs (a ∷ rest) after row used some is at last left follows =
    let count : row.entries ≡ a.entries = ap (λ (r : Adopted). r.entries) at in
    let none : a.entries - (used + 1) ≡ 0 = omega arith in
    let rows : left_of after 0 ≡ replicate (a.entries - (used + 1)) a.version ++ written rest =
    none_used after ∙ ap (λ (rows : List Adopted). written rows) is ∙ sym (ap (λ (k : ℕ). replicate k a.version ++ written rest) none) in
    subst (Follows script (vs ++ row.version ∷ [])) (sym rows) (row_goes_on script vs (a ∷ rest) row used some at left follows)

-- there is a row that is not used up
pub used_below : (rest : List Adopted) (row : Adopted) (used : ℕ) → 0 < length rest → row ≡ get_or rest 0 no_row → IsSomeLeft rest used → used < row.entries
used_below [] row used some at left = absurd (omega arith)
used_below (a ∷ rest) row used some at left =
    let count : row.entries ≡ a.entries = ap (λ (r : Adopted). r.entries) at in
    omega arith

-- nothing is left of no rows
pub none_left : (script vs : List ℕ) (rest : List Adopted) (used v : ℕ) → rest ≡ [] → Follows script vs (left_of rest used) → Follows script (vs ++ v ∷ []) (left_of rest used)
none_left script vs [] used v none follows = follow_end script vs v follows
none_left script vs (a ∷ rest) used v none follows = absurd cc
