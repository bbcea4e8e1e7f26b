-- Lines that are added one after another, for each element of a list.
use Rattle.std.proofs.Common.{◌≡◌, ℕ, zero, suc, ◌+◌, ◌≤◌, List, [], ◌∷◌, ◌++◌, ◌∙◌, Some, length, drop, refl, sym, ap, arith, add-one, append_assoc, zero-add}
use Rattle.std.specs.Prelude.{reverse, slice_get}
use Rattle.std.proofs.lemmas.List.{append-nil, drop_all, length-reverse, reverse-append}
use Rattle.cv_base.specs.declared.entries.Entry.{Entry}
use Rattle.cv_histories.specs.Report.{entry_line, entry_lines, line}
use Rattle.cv_report.specs.Pieces.{entry_lines_from, numbered}

drop_suc : {A : Type 0} (xs : List A) (i : ℕ) (x : A) → slice_get xs i ≡ Some x → drop i xs ≡ x ∷ drop (suc i) xs
drop_suc [] i x is = absurd (cc)
drop_suc (y ∷ ys) zero x is = cc
drop_suc (y ∷ ys) (suc i) x is = drop_suc ys i x is

pub drop_at : {A : Type 0} (xs : List A) (i : ℕ) (x : A) → slice_get xs i ≡ Some x → drop i xs ≡ x ∷ drop (i + 1) xs
drop_at xs i x is = rw add-one (drop_suc xs i x is)

-- `of` writes the lines of a list whose first element has a number
module _ {A : Type 0} (of : ℕ → List A → List ℕ) where
  -- one element on: `all` is what is written in the end
  pub one_more : (xs : List A) (i : ℕ) (x : A) (piece old new all : List ℕ) → slice_get xs i ≡ Some x
      → of i (x ∷ drop (i + 1) xs) ≡ piece ++ of (i + 1) (drop (i + 1) xs)
      → old ++ of i (drop i xs) ≡ all → new ≡ old ++ piece → new ++ of (i + 1) (drop (i + 1) xs) ≡ all
  one_more xs i x piece old new all is step before added =
      ap (λ l. l ++ of (i + 1) (drop (i + 1) xs)) added
      ∙ append_assoc old piece (of (i + 1) (drop (i + 1) xs))
      ∙ ap (λ l. old ++ l) (sym step)
      ∙ ap (λ l. old ++ of i l) (sym (drop_at xs i x is))
      ∙ before

  pub all_done : (xs : List A) (i : ℕ) (text all : List ℕ) → length xs ≤ i → of i [] ≡ [] → text ++ of i (drop i xs) ≡ all → text ≡ all
  all_done xs i text all past none is =
      sym (append-nil text) ∙ ap (λ l. text ++ l) (sym none) ∙ ap (λ l. text ++ of i l) (sym (drop_all i xs past)) ∙ is

-- ---- entries, which a definition reads from the newest on

one_behind : {A : Type 0} (line_of : ℕ → A → List ℕ) (i : ℕ) (xs : List A) (x : A) → numbered line_of i (xs ++ x ∷ []) ≡ numbered line_of i xs ++ line_of (i + length xs) x
one_behind line_of i [] x = let same : i + 0 ≡ i = omega arith in rw same (append-nil (line_of i x))
one_behind line_of i (y ∷ ys) x =
    let same : i + 1 + length ys ≡ i + suc (length ys) = omega arith in
    ap (λ l. line_of i y ++ l) (one_behind line_of (i + 1) ys x ∙ ap (λ n. numbered line_of (i + 1) ys ++ line_of n x) same)
    ∙ sym (append_assoc (line_of i y) (numbered line_of (i + 1) ys) (line_of (i + suc (length ys)) x))

line_at : ℕ → Entry → List ℕ
line_at i e = line (entry_line i e)

newest_last : (e : Entry) (past : List Entry) → numbered line_at 0 (reverse (e ∷ past)) ≡ numbered line_at 0 (reverse past) ++ line_at (length past) e
newest_last e past =
    ap (numbered line_at 0) (reverse-append (e ∷ []) past)
    ∙ one_behind line_at 0 (reverse past) e
    ∙ ap (λ n. numbered line_at 0 (reverse past) ++ line_at n e) (zero-add (length (reverse past)) ∙ length-reverse past)

pub oldest_first : (past : List Entry) → entry_lines_from 0 (reverse past) ≡ entry_lines past
unfolding line_at
oldest_first [] = refl
oldest_first (e ∷ past) = newest_last e past ∙ ap (λ l. l ++ line (entry_line (length past) e)) (oldest_first past)
