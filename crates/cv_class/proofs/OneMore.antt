-- The marks over some entries and one more behind them.
use Rattle.std.proofs.Common.{◌≡◌, ℕ, ◌<◌, Bool, true, false, ◌&&◌, ◌||◌, List, [], ◌∷◌, ◌++◌, length, Some, refl, sym, ap, ◌∙◌, arith}
use Rattle.std.specs.Prelude.{◌==◌, nat_lt}
use Rattle.std.specs.List.{list_all, list_any}
use Rattle.std.proofs.lemmas.List.Folds.{list_all-append, list_any-append}
use Rattle.std.proofs.lemmas.Option.{slice_get-get_or, get_or_from_slice_get}
use Rattle.cv_base.specs.declared.entries.TallyRow.{TallyRow}
use Rattle.cv_class.specs.declared.classes.Marks.{Marks}
use Rattle.cv_class.specs.Counted.{StandsFor, marks_of}
use Rattle.cv_class.specs.Rows.{AllCounted, counted_with, row_in}
use Rattle.cv_histories.specs.Classes.{last_failed, row_of, violations_of}
use Rattle.cv_histories.specs.Seen.{Seen}

and_one : (b : Bool) → (b && true) ≡ b
and_one true = refl
and_one false = refl

or_none : (b : Bool) → (b || false) ≡ b
or_none true = refl
or_none false = refl

module _ {X : Type 0} (p : X → Bool) (xs : List X) (x : X) where
  list_all_push : list_all p (xs ++ x ∷ []) ≡ (list_all p xs && p x)
  list_all_push = list_all-append p xs (x ∷ []) ∙ ap (λ b. list_all p xs && b) (and_one (p x))

  list_any_push : list_any p (xs ++ x ∷ []) ≡ (list_any p xs || p x)
  list_any_push = list_any-append p xs (x ∷ []) ∙ ap (λ b. list_any p xs || b) (or_none (p x))

pub marks_push : (c x : ℕ) (before : List Seen) (s : Seen) → marks_of c x (before ++ s ∷ []) ≡ counted_with (marks_of c x before) (row_of c x s)
marks_push c x before s =
    let each_failed = list_all_push (λ s. last_failed (row_of c x s)) before s in
    let each_once = list_all_push (λ s. last_failed (row_of c x s) && (violations_of (row_of c x s) == 1)) before s in
    let some = list_any_push (λ s. nat_lt 0 (violations_of (row_of c x s))) before s in
    let some_more = list_any_push (λ s. nat_lt 1 (violations_of (row_of c x s))) before s in
    cc

pub stands_for_one_more : (c : ℕ) (tally : List TallyRow) (old new : List Marks) → length new ≡ length old → AllCounted c tally old new → (before : List Seen) (s : Seen) → s.entry.tally ≡ tally → StandsFor (record { case = c; marks = old }) before → StandsFor (record { case = c; marks = new }) (before ++ s ∷ [])
stands_for_one_more c tally old new long counted before s same stands x within =
    let d = marks_of c x before in
    let inside : x < length old = omega arith in
    slice_get-get_or new x d within
    ∙ ap Some
    (counted x d inside
    ∙ ap (λ m. counted_with m (row_in c x tally)) (get_or_from_slice_get old x d d (stands x inside))
    ∙ ap (λ t. counted_with d (row_in c x t)) (sym same)
    ∙ sym (marks_push c x before s))
