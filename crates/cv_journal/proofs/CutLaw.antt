-- Joining by a mark, and cutting at it: each undoes the other.
use Rattle.std.proofs.Common.{◌≡◌, ℕ, ◌+◌, ◌==◌, Bool, true, false, not, List, [], ◌∷◌, ◌++◌, ◌∙◌, Option, Some, None, length, take, drop, refl, sym, ap, arith, eqb-true}
use Rattle.std.specs.Prelude.{option_map, bytes_eq, cond, count_by, unwrap_or}
use Rattle.std.specs.Cmp.Lexicographic.{bytes_decides}
use Rattle.std.specs.List.{list_all, join_with_byte}
use Rattle.std.proofs.lemmas.Bool.{and_parts, and_from, not-true}
use Rattle.std.proofs.lemmas.List.{length-append, take-append-drop}
use Rattle.std.proofs.lemmas.List.Splits.{join_with_byte-slice_split, length-slice_split}
use Rattle.std.proofs.Math.Seq.{drop-append_seam, take-append_seam}
use Rattle.std.proofs.lemmas.List.Folds.{list_all-append}
use Rattle.cv_journal.specs.Reading.{behind, cut, only_where, pieces}

-- no byte of s is the mark
abbrev pub lacks : ℕ → List ℕ → Bool
lacks mark s = list_all (λ b. not (b == mark)) s

pub lacks_append : (mark : ℕ) (s t : List ℕ) → lacks mark s ≡ true → lacks mark t ≡ true → lacks mark (s ++ t) ≡ true
lacks_append mark s t a b = list_all-append (λ c. not (c == mark)) s t ∙ and_from _ _ a b

pub lacks_pair : (mark mid : ℕ) (s t : List ℕ) → (mid == mark) ≡ false → lacks mark s ≡ true → lacks mark t ≡ true → lacks mark (s ++ mid ∷ t) ≡ true
lacks_pair mark mid s t other a b = lacks_append mark s (mid ∷ t) a (and_from _ _ (ap not other) b)

pub cut_at : (mark : ℕ) (s t : List ℕ) → lacks mark s ≡ true → cut mark (s ++ mark ∷ t) ≡ Some (s, t)
unfolding cut
cut_at mark [] t h = let same : (mark == mark) ≡ true = grind arith in rw same refl
cut_at mark (b ∷ bs) t h =
    let parts : (not (b == mark) ≡ true) × (lacks mark bs ≡ true) = and_parts _ _ h in
    let other : (b == mark) ≡ false = not-true _ parts.0 in
    rw (other, cut_at mark bs t parts.1) refl

abbrev pub front : Option (List ℕ × List ℕ) → List ℕ
front None = []
front (Some p) = p.0

abbrev pub rear : Option (List ℕ × List ℕ) → List ℕ
rear None = []
rear (Some p) = p.1

cut_cases : (mark b : ℕ) (bs a t : List ℕ) (same : Bool) (rest : Option (List ℕ × List ℕ)) → (b == mark) ≡ same
    → ((u v : List ℕ) → rest ≡ Some (u, v) → bs ≡ u ++ mark ∷ v)
    → cond {A = Option (List ℕ × List ℕ)} same (Some ([], bs)) (option_map (λ (p : List ℕ × List ℕ). (b ∷ p.0, p.1)) rest) ≡ Some (a, t) → b ∷ bs ≡ a ++ mark ∷ t
cut_cases mark b bs a t true rest is rec h =
    ap (λ n. n ∷ bs) (eqb-true b mark is) ∙ ap (λ l. mark ∷ l) (ap rear h) ∙ ap (λ l. l ++ mark ∷ t) (ap front h)
cut_cases mark b bs a t false None is rec h = absurd (cc)
cut_cases mark b bs a t false (Some p) is rec h =
    ap (λ l. b ∷ l) (rec p.0 p.1 refl) ∙ ap (λ l. l ++ mark ∷ p.1) (ap front h) ∙ ap (λ l. a ++ mark ∷ l) (ap rear h)

pub cut_back : (mark : ℕ) (s a t : List ℕ) → cut mark s ≡ Some (a, t) → s ≡ a ++ mark ∷ t
unfolding cut
cut_back mark [] a t h = absurd (cc)
cut_back mark (b ∷ bs) a t h = cut_cases mark b bs a t (b == mark) (cut mark bs) refl (λ u v e. cut_back mark bs u v e) h

pub cut_shorter : (mark : ℕ) (s a t : List ℕ) → cut mark s ≡ Some (a, t) → length a + length t + 1 ≡ length s
cut_shorter mark s a t h = let e : length s ≡ length a + length (mark ∷ t) = ap length (cut_back mark s a t h) ∙ length-append a (mark ∷ t) in omega arith

-- ---- words

pub behind_at : (word s : List ℕ) → behind word (word ++ s) ≡ Some s
unfolding behind
behind_at word s =
    let same : bytes_eq (take (length word) (word ++ s)) word ≡ true = (bytes_decides _ _).1 (take-append_seam word s) in
    rw same (ap (λ l. Some l) (drop-append_seam word s))

where_some : {A : Type 0} (b : Bool) (x y : A) → only_where b (Some x) ≡ Some y → (b ≡ true) × (x ≡ y)
where_some true x y h = (refl, ap (λ o. unwrap_or o y) h)
where_some false x y h = absurd (cc)

pub behind_back : (word s t : List ℕ) → behind word s ≡ Some t → s ≡ word ++ t
unfolding behind
behind_back word s t h =
    let got = where_some (bytes_eq (take (length word) s) word) (drop (length word) s) t h in
    sym (take-append-drop (length word) s) ∙ ap (λ l. l ++ drop (length word) s) ((bytes_decides (take (length word) s) word).0 got.0) ∙ ap (λ l. word ++ l) got.1

-- ---- pieces

pub pieces_plain : (mark : ℕ) (s : List ℕ) → lacks mark s ≡ true → pieces mark s ≡ s ∷ []
unfolding pieces
pieces_plain mark [] h = refl
pieces_plain mark (b ∷ bs) h =
    let parts : (not (b == mark) ≡ true) × (lacks mark bs ≡ true) = and_parts _ _ h in
    let other : (b == mark) ≡ false = not-true _ parts.0 in
    rw (other, pieces_plain mark bs parts.1) refl

pub pieces_at : (mark : ℕ) (s t : List ℕ) → lacks mark s ≡ true → pieces mark (s ++ mark ∷ t) ≡ s ∷ pieces mark t
unfolding pieces
pieces_at mark [] t h = let same : (mark == mark) ≡ true = grind arith in rw same refl
pieces_at mark (b ∷ bs) t h =
    let parts : (not (b == mark) ≡ true) × (lacks mark bs ≡ true) = and_parts _ _ h in
    let other : (b == mark) ≡ false = not-true _ parts.0 in
    rw (other, pieces_at mark bs t parts.1) refl

pub pieces_join : (mark : ℕ) (s : List ℕ) → join_with_byte mark (pieces mark s) ≡ s
unfolding pieces
pieces_join mark s = join_with_byte-slice_split mark s

pub pieces_some : (mark : ℕ) (s : List ℕ) → pieces mark s ≡ [] → ⊥
unfolding pieces
pieces_some mark s h = let e : 0 ≡ count_by (λ b. b == mark) s + 1 = sym (ap length h) ∙ length-slice_split (λ b. b == mark) s in omega arith
