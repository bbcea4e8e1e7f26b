-- Texts that are read back: what the reading of a part gives, the reading of the whole gives.
use Rattle.std.proofs.Common.{◌≡◌, ℕ, ◌==◌, Bool, true, false, cond, List, [], ◌∷◌, ◌++◌, ◌∙◌, Option, Some, None, map, codes, refl, sym, ap, subst, eqb-true}
use Rattle.std.specs.Prelude.{option_map, option_and_then, bytes_eq, unwrap_or}
use Rattle.std.specs.Cmp.Lexicographic.{bytes_decides}
use Rattle.std.specs.List.{AllByRecursion, join_with_byte}
use Rattle.std.proofs.lemmas.Bool.{false_from_ne_true}
use Rattle.cv_base.specs.InvariantText.{list_text}
use Rattle.cv_journal.specs.EntryReading.{is_number}
use Rattle.cv_journal.specs.Reading.{both, cut, each, list_in, named_in, only_where, pair_in, pieces}
use Rattle.cv_journal.proofs.CutLaw.{cut_at, cut_back, lacks, lacks_pair, pieces_at, pieces_join, pieces_plain, pieces_some}

-- reading undoes the text of what fits, and reads nothing else
pub record Reads {A : Type 0} (IsFit : A → Type 0) (text : A → List ℕ) (read : List ℕ → Option A) : Type 0 where
  pub back : (s : List ℕ) (x : A) → read s ≡ Some x → IsFit x × (s ≡ text x)
  pub forth : (x : A) → IsFit x → read (text x) ≡ Some x

-- ---- options

pub where_back : {A : Type 0} (b : Bool) (o : Option A) (y : A) → only_where b o ≡ Some y → (b ≡ true) × (o ≡ Some y)
where_back true o y e = (refl, e)
where_back false o y e = absurd (cc)

pub is_number_so : (n : ℕ) (o : Option ℕ) → is_number n o ≡ true → o ≡ Some n
is_number_so n None h = absurd (cc)
is_number_so n (Some m) h = ap (λ k. Some k) (eqb-true m n h)

pub both_back : {A B : Type 0} (x : Option A) (y : Option B) (p : A × B) → both x y ≡ Some p → (x ≡ Some p.0) × (y ≡ Some p.1)
both_back {A} {B} (Some a) (Some b) p e = (ap (option_map (λ (q : A × B). q.0)) e, ap (option_map (λ (q : A × B). q.1)) e)
both_back (Some a) None p e = absurd (cc)
both_back None y p e = absurd (cc)

pub and_then_back : {A B : Type 0} (f : A → Option B) (o : Option A) (y : B) → option_and_then f o ≡ Some y → (x : A) × ((o ≡ Some x) × (f x ≡ Some y))
and_then_back f None y e = absurd (cc)
and_then_back f (Some x) y e = (x, (refl, e))

pub map_back : {A B : Type 0} (f : A → B) (o : Option A) (y : B) → option_map f o ≡ Some y → (x : A) × ((o ≡ Some x) × (f x ≡ y))
map_back f None y e = absurd (cc)
map_back f (Some x) y e = (x, (refl, ap (λ o. unwrap_or o y) e))

-- ---- pairs, and the same under other names

module _ {A B : Type 0} {FitA : A → Type 0} {FitB : B → Type 0} {textA : A → List ℕ} {textB : B → List ℕ} {readA : List ℕ → Option A} {readB : List ℕ → Option B} where
  pub pair_reads : (mark : ℕ) → Reads FitA textA readA → ((x : A) → FitA x → lacks mark (textA x) ≡ true) → Reads FitB textB readB
      → Reads (λ (p : A × B). FitA p.0 × FitB p.1) (λ (p : A × B). textA p.0 ++ mark ∷ textB p.1) (pair_in mark readA readB)
  pair_reads mark first plain second = record {
    back = λ s p e.
        let found = and_then_back (λ (q : List ℕ × List ℕ). both (readA q.0) (readB q.1)) (cut mark s) p e in
        let parts = both_back (readA found.0.0) (readB found.0.1) p found.1.1 in
        let one = first.back found.0.0 p.0 parts.0 in
        let other = second.back found.0.1 p.1 parts.1 in
        ((one.0, other.0), cut_back mark s found.0.0 found.0.1 found.1.0 ∙ ap (λ l. l ++ mark ∷ found.0.1) one.1 ∙ ap (λ l. textA p.0 ++ mark ∷ l) other.1);
    forth = λ p fit.
        ap (option_and_then (λ (q : List ℕ × List ℕ). both (readA q.0) (readB q.1))) (cut_at mark (textA p.0) (textB p.1) (plain p.0 fit.0))
        ∙ ap (λ o. both o (readB (textB p.1))) (first.forth p.0 fit.0)
        ∙ ap (λ o. both (Some p.0) o) (second.forth p.1 fit.1);
  }

module _ {A B : Type 0} {FitA : A → Type 0} {FitB : B → Type 0} {textA : A → List ℕ} {textB : B → List ℕ} {readA : List ℕ → Option A} where
  pub as_reads : Reads FitA textA readA → (f : A → B) (g : B → A) → ((a : A) → g (f a) ≡ a) → ((b : B) → f (g b) ≡ b)
      → ((b : B) → FitA (g b) → FitB b) → ((b : B) → FitB b → FitA (g b)) → ((b : B) → textB b ≡ textA (g b))
      → Reads FitB textB (λ s. option_map f (readA s))
  as_reads reads f g to_and_fro fro_and_to to from same = record {
    back = λ s b e.
        let found = map_back f (readA s) b e in
        let got = reads.back s found.0 found.1.0 in
        let is : found.0 ≡ g b = sym (to_and_fro found.0) ∙ ap g found.1.1 in
        (to b (subst FitA is got.0), got.1 ∙ ap textA is ∙ sym (same b));
    forth = λ b fit. ap (option_map f) (ap readA (same b) ∙ reads.forth (g b) (from b fit)) ∙ ap (λ c. Some c) (fro_and_to b);
  }

-- ---- lists

module _ {A : Type 0} {Fit : A → Type 0} {text : A → List ℕ} {read : List ℕ → Option A} (reads : Reads Fit text read) where
  each_back : (ps : List (List ℕ)) (xs : List A) → each read ps ≡ Some xs → AllByRecursion Fit xs × (ps ≡ map text xs)
  each_back [] xs e =
      let is : [] ≡ xs = ap (λ o. unwrap_or o xs) e in
      subst (λ (l : List A). AllByRecursion Fit l × ([] ≡ map text l)) is (tt, refl)
  each_back (p ∷ ps) xs e =
      let found = map_back (λ (q : A × List A). q.0 ∷ q.1) (both (read p) (each read ps)) xs e in
      let parts = both_back (read p) (each read ps) found.0 found.1.0 in
      let one = reads.back p found.0.0 parts.0 in
      let rest = each_back ps found.0.1 parts.1 in
      subst (λ (l : List A). AllByRecursion Fit l × (p ∷ ps ≡ map text l)) found.1.1 ((one.0, rest.0), ap (λ l. l ∷ ps) one.1 ∙ ap (λ l. text found.0.0 ∷ l) rest.1)

  each_forth : (xs : List A) → AllByRecursion Fit xs → each read (map text xs) ≡ Some xs
  each_forth [] fit = refl
  each_forth (x ∷ xs) fit =
      ap (λ o. option_map (λ (q : A × List A). q.0 ∷ q.1) (both o (each read (map text xs)))) (reads.forth x fit.0)
      ∙ ap (λ o. option_map (λ (q : A × List A). q.0 ∷ q.1) (both (Some x) o)) (each_forth xs fit.1)

  module _ (plain : (x : A) → Fit x → lacks 44 (text x) ≡ true) where
    joined : (x : A) (xs : List A) → AllByRecursion Fit (x ∷ xs) → pieces 44 (join_with_byte 44 (map text (x ∷ xs))) ≡ map text (x ∷ xs)
    joined x [] fit = pieces_plain 44 (text x) (plain x fit.0)
    joined x (y ∷ ys) fit = pieces_at 44 (text x) (join_with_byte 44 (map text (y ∷ ys))) (plain x fit.0) ∙ ap (λ l. text x ∷ l) (joined y ys fit.1)

    list_back : (s : List ℕ) (xs : List A) (empty : Bool) → bytes_eq s (codes "-") ≡ empty → cond empty (Some []) (each read (pieces 44 s)) ≡ Some xs
        → AllByRecursion Fit xs × (s ≡ list_text (map text xs))
    list_back s xs true is e =
        let none : [] ≡ xs = ap (λ o. unwrap_or o xs) e in
        subst (λ (l : List A). AllByRecursion Fit l × (s ≡ list_text (map text l))) none (tt, (bytes_decides s (codes "-")).0 is)
    list_back s [] false is e = absurd (pieces_some 44 s (each_back (pieces 44 s) [] e).1)
    list_back s (x ∷ xs) false is e =
        let got = each_back (pieces 44 s) (x ∷ xs) e in
        (got.0, sym (pieces_join 44 s) ∙ ap (join_with_byte 44) got.1)

    first_of_pieces : List (List ℕ) → List ℕ
    first_of_pieces [] = []
    first_of_pieces (p ∷ ps) = p

    no_dash : (x : A) (xs : List A) → AllByRecursion Fit (x ∷ xs) → read (codes "-") ≡ None → bytes_eq (list_text (map text (x ∷ xs))) (codes "-") ≡ true → ⊥
    unfolding first_of_pieces pieces
    no_dash x xs fit unread is =
        let same : list_text (map text (x ∷ xs)) ≡ codes "-" = (bytes_decides _ _).0 is in
        let first : codes "-" ≡ text x = ap first_of_pieces (sym (ap (pieces 44) same) ∙ joined x xs fit) in
        let read_back : read (text x) ≡ Some x = reads.forth x fit.0 in
        let unread_too : read (text x) ≡ None = ap read (sym first) ∙ unread in
        cc

    list_forth : (xs : List A) → AllByRecursion Fit xs → read (codes "-") ≡ None → list_in read (list_text (map text xs)) ≡ Some xs
    list_forth [] fit unread = refl
    list_forth (x ∷ xs) fit unread =
        let other : bytes_eq (list_text (map text (x ∷ xs))) (codes "-") ≡ false = false_from_ne_true _ (no_dash x xs fit unread) in
        ap (λ b. cond b (Some []) (each read (pieces 44 (list_text (map text (x ∷ xs)))))) other
        ∙ ap (each read) (joined x xs fit)
        ∙ each_forth (x ∷ xs) fit

    pub list_reads : read (codes "-") ≡ None → Reads (AllByRecursion Fit) (λ xs. list_text (map text xs)) (list_in read)
    list_reads unread = record {
      back = λ s xs e. list_back s xs (bytes_eq s (codes "-")) refl e;
      forth = λ xs fit. list_forth xs fit unread;
    }

-- a mark that no item of a list has, the list has not
pub list_lacks : {A : Type 0} (Fit : A → Type 0) (text : A → List ℕ) (mark : ℕ) → (44 == mark) ≡ false → lacks mark (codes "-") ≡ true
    → ((x : A) → Fit x → lacks mark (text x) ≡ true) → (xs : List A) → AllByRecursion Fit xs → lacks mark (list_text (map text xs)) ≡ true
list_lacks Fit text mark other dash plain [] fit = dash
list_lacks Fit text mark other dash plain (x ∷ []) fit = plain x fit.0
list_lacks Fit text mark other dash plain (x ∷ y ∷ ys) fit =
    lacks_pair mark 44 (text x) (join_with_byte 44 (map text (y ∷ ys))) other (plain x fit.0) (list_lacks Fit text mark other dash plain (y ∷ ys) fit.1)

-- ---- names

named_cases : {A : Type 0} (name : A → List ℕ) (k : A) (s : List ℕ) (x : A) (rest : Option A) (same : Bool) → bytes_eq s (name k) ≡ same
    → (rest ≡ Some x → s ≡ name x) → cond same (Some k) rest ≡ Some x → s ≡ name x
named_cases name k s x rest true is rec h = (bytes_decides s (name k)).0 is ∙ ap name (ap (λ o. unwrap_or o x) h)
named_cases name k s x rest false is rec h = rec h

named_back : {A : Type 0} (name : A → List ℕ) (things : List A) (s : List ℕ) (x : A) → named_in name things s ≡ Some x → s ≡ name x
named_back name [] s x e = absurd (cc)
named_back name (k ∷ ks) s x e = named_cases name k s x (named_in name ks s) (bytes_eq s (name k)) refl (λ h. named_back name ks s x h) e

pub named_reads : {A : Type 0} (name : A → List ℕ) (things : List A) → ((x : A) → named_in name things (name x) ≡ Some x)
    → Reads (λ (x : A). Unit {0}) name (named_in name things)
named_reads name things known = record { back = λ s x e. (tt, named_back name things s x e); forth = λ x fit. known x }
