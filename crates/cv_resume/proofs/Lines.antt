-- One step of the loops over lines and pieces.
use Rattle.std.proofs.Common.{◌≡◌, ℕ, suc, ◌+◌, ◌^◌, ◌<◌, ◌≤◌, ◌==◌, true, false, cond, List, [], ◌∷◌, ◌++◌, ◌∙◌, Option, Some, None, Result, Ok, Err, length, drop, get_or, refl, sym, ap, arith, append_assoc, length-append, drop-cons}
use Rattle.std.specs.Borrow.{Bor}
use Rattle.std.specs.Prelude.{◌↔◌, option_map, option_and_then}
use Rattle.std.proofs.lemmas.List.{append-nil, drop_all}
use Rattle.cv_base.specs.declared.entries.Entry.{Entry}
use Rattle.cv_journal.specs.EntryReading.{ValuesOf, entry_in, entry_of, is_number, values_in}
use Rattle.cv_journal.specs.LineOf.{IsLineOf}
use Rattle.cv_journal.specs.Reading.{both, number_in}
use Rattle.cv_journal.specs.Statements.{NumbersAreReadBack}
use Rattle.cv_journal.specs.Steps.{prepended}
use Rattle.cv_resume.specs.Kept.{entries_at, entries_behind, entries_in, with_piece}
use Rattle.cv_resume.specs.Texts.{texts_of}

-- ---- one line

-- the law of `cv_journal`, for one number and one line
abbrev pub Exactly : Type 0
Exactly = (number : ℕ) → number < 2 ^ 32 → (line : List ℕ) (e : Entry) → (entry_in number line ≡ Some e) ↔ IsLineOf number line e

pub read_some : Exactly → (number : ℕ) → number < 2 ^ 32 → (line : List ℕ) (e : Entry) → IsLineOf number line e → Some e ≡ entry_in number line
read_some law number small line e is = sym ((law number small line e).1 is)

none_by : (number : ℕ) (line : List ℕ) (o : Option Entry) → o ≡ entry_in number line → ((e : Entry) → entry_in number line ≡ Some e → ⊥) → None ≡ entry_in number line
none_by number line None is fails = is
none_by number line (Some e) is fails = absurd (fails e (sym is))

pub read_none : Exactly → (number : ℕ) → number < 2 ^ 32 → (line : List ℕ) → ((e : Entry) → IsLineOf number line e → ⊥) → None ≡ entry_in number line
read_none law number small line fails = none_by number line (entry_in number line) refl (λ e is. fails e ((law number small line e).0 is))

-- ---- numbers past 32 bits

wide_by : (n : ℕ) (o : Option ℕ) → ((m : ℕ) → o ≡ Some m → m < 2 ^ 32) → 2 ^ 32 ≤ n → is_number n o ≡ false
wide_by n None small past = refl
wide_by n (Some m) small past = let low = small m refl in grind arith

wide_values : NumbersAreReadBack → (n : ℕ) (o : Option ValuesOf) → 2 ^ 32 ≤ n → option_and_then (entry_of n) o ≡ None
unfolding entry_of
wide_values read_back n None past = refl
wide_values read_back n (Some v) past =
    let other : is_number n (number_in v.number) ≡ false = wide_by n (number_in v.number) (λ m is. (read_back.0 v.number m is).0) past in
    rw other refl

-- no line has such a number
pub none_past : NumbersAreReadBack → (n : ℕ) (line : List ℕ) → 2 ^ 32 ≤ n → None ≡ entry_in n line
unfolding entry_in
none_past read_back n line past = sym (wide_values read_back n (values_in line) past)

-- ---- lines

line_by : (done : List Entry) (e : Entry) (rest : Option (List Entry)) → prepended (done ++ e ∷ []) rest ≡ prepended done (option_map (λ (q : Entry × List Entry). q.0 ∷ q.1) (both (Some e) rest))
line_by done e None = refl
line_by done e (Some es) = ap (λ l. Some l) (append_assoc done (e ∷ []) es)

-- what is left begins with what stands there
left_at : {X : Type 0} (xs : List X) (i : ℕ) (x : X) → i < length xs → x ≡ get_or xs i x → drop i xs ≡ x ∷ drop (suc i) xs
left_at xs i x within at = drop-cons xs i x within ∙ ap (λ y. y ∷ drop (suc i) xs) (sym at)

-- one line more
pub line_more : (done : List Entry) (e : Entry) (lines : List (Bor (List ℕ))) (i : ℕ) (line : Bor (List ℕ)) → i < length lines → line ≡ get_or lines i line → Some e ≡ entry_in (length done) line.now
    → prepended (done ++ e ∷ []) (entries_at (length (done ++ e ∷ [])) (texts_of (drop (i + 1) lines))) ≡ prepended done (entries_at (length done) (texts_of (drop i lines)))
line_more done e lines i line within at read =
    let rest = texts_of (drop (i + 1) lines) in
    let count : length (done ++ e ∷ []) ≡ length done + 1 = length-append done (e ∷ []) in
    let next : i + 1 ≡ suc i = omega arith in
    ap (λ n. prepended (done ++ e ∷ []) (entries_at n rest)) count
    ∙ line_by done e (entries_at (length done + 1) rest)
    ∙ ap (λ o. prepended done (option_map (λ (q : Entry × List Entry). q.0 ∷ q.1) (both o (entries_at (length done + 1) rest)))) read
    ∙ ap (λ j. prepended done (entries_at (length done) (line.now ∷ texts_of (drop j lines)))) next
    ∙ ap (λ (l : List (Bor (List ℕ))). prepended done (entries_at (length done) (texts_of l))) (sym (left_at lines i line within at))

-- a line of no entry
pub line_bad : (done : List Entry) (lines : List (Bor (List ℕ))) (i : ℕ) (line : Bor (List ℕ)) → i < length lines → line ≡ get_or lines i line → None ≡ entry_in (length done) line.now
    → prepended done (entries_at (length done) (texts_of (drop i lines))) ≡ None
line_bad done lines i line within at read =
    ap (λ (l : List (Bor (List ℕ))). prepended done (entries_at (length done) (texts_of l))) (left_at lines i line within at)
    ∙ ap (λ o. prepended done (option_map (λ (q : Entry × List Entry). q.0 ∷ q.1) (both o (entries_at (length done + 1) (texts_of (drop (suc i) lines)))))) (sym read)

-- no line is left
pub lines_done : (done : List Entry) (lines : List (Bor (List ℕ))) (i : ℕ) → length lines ≤ i → prepended done (entries_at (length done) (texts_of (drop i lines))) ≡ Some done
lines_done done lines i past =
    ap (λ (l : List (Bor (List ℕ))). prepended done (entries_at (length done) (texts_of l))) (drop_all i lines past) ∙ ap (λ l. Some l) (append-nil done)

-- ---- pieces

opened : (pieces : List (List ℕ)) (done : List Entry) (number : ℕ) (piece : List ℕ) → number < length pieces → piece ≡ get_or pieces number piece
    → entries_behind number done (drop number pieces) ≡ entries_behind number done (piece ∷ drop (suc number) pieces)
opened pieces done number piece within at = ap (entries_behind number done) (left_at pieces number piece within at)

-- the piece that may not be
pub piece_past : (pieces : List (List ℕ)) (done : List Entry) (number : ℕ) (piece : List ℕ) → number < length pieces → piece ≡ get_or pieces number piece → number ≡ 1024
    → entries_behind number done (drop number pieces) ≡ Err number
piece_past pieces done number piece within at last =
    let is : (number == 1024) ≡ true = grind arith in
    opened pieces done number piece within at
    ∙ ap (λ b. cond b (Err number) (with_piece number (entries_in (length done) piece) (λ more. entries_behind (number + 1) (done ++ more) (drop (suc number) pieces)))) is

first_is : (number : ℕ) (done : List Entry) (piece : List ℕ) (rest : List (List ℕ)) → number < 1024
    → entries_behind number done (piece ∷ rest) ≡ with_piece number (entries_in (length done) piece) (λ more. entries_behind (number + 1) (done ++ more) rest)
first_is number done piece rest low =
    let not_last : (number == 1024) ≡ false = grind arith in
    ap (λ b. cond b (Err number) (with_piece number (entries_in (length done) piece) (λ more. entries_behind (number + 1) (done ++ more) rest))) not_last

-- a bad piece
bad_by : (number : ℕ) (done : List Entry) (o : Option (List Entry)) (next : List Entry → Result (List Entry) ℕ) → None ≡ prepended done o → with_piece number o next ≡ Err number
bad_by number done None next is = refl
bad_by number done (Some more) next is = absurd cc

pub piece_bad : (pieces : List (List ℕ)) (done : List Entry) (number : ℕ) (piece : List ℕ) → number < length pieces → piece ≡ get_or pieces number piece → number < 1024
    → None ≡ prepended done (entries_in (length done) piece) → entries_behind number done (drop number pieces) ≡ Err number
piece_bad pieces done number piece within at low bad =
    opened pieces done number piece within at
    ∙ first_is number done piece (drop (suc number) pieces) low
    ∙ bad_by number done (entries_in (length done) piece) (λ more. entries_behind (number + 1) (done ++ more) (drop (suc number) pieces)) bad

-- one piece more
more_by : (number : ℕ) (done new : List Entry) (o : Option (List Entry)) (rest : List (List ℕ)) → Some new ≡ prepended done o
    → with_piece number o (λ more. entries_behind (number + 1) (done ++ more) rest) ≡ entries_behind (number + 1) new rest
more_by number done new None rest is = absurd cc
more_by number done new (Some more) rest is =
    let same : done ++ more ≡ new = cc in
    ap (λ l. entries_behind (number + 1) l rest) same

pub piece_more : (pieces : List (List ℕ)) (done new : List Entry) (number : ℕ) (piece : List ℕ) → number < length pieces → piece ≡ get_or pieces number piece → number < 1024
    → Some new ≡ prepended done (entries_in (length done) piece) → entries_behind (number + 1) new (drop (number + 1) pieces) ≡ entries_behind number done (drop number pieces)
piece_more pieces done new number piece within at low good =
    let next : number + 1 ≡ suc number = omega arith in
    sym (opened pieces done number piece within at
    ∙ first_is number done piece (drop (suc number) pieces) low
    ∙ more_by number done new (entries_in (length done) piece) (drop (suc number) pieces) good
    ∙ ap (λ j. entries_behind (number + 1) new (drop j pieces)) (sym next))

-- no piece is left
pub pieces_done : (pieces : List (List ℕ)) (done : List Entry) (number : ℕ) → length pieces ≤ number → entries_behind number done (drop number pieces) ≡ Ok done
pieces_done pieces done number past = ap (entries_behind number done) (drop_all number pieces past)
