-- The pieces of a line that is written piece by piece.
use Rattle.std.proofs.Common.{◌≡◌, ℕ, ◌+◌, ◌-◌, Bool, true, false, cond, not, ◌==◌, ◌&&◌, nat_lt, suc, List, [], ◌∷◌, ◌++◌, length, take, Some, None, refl, ap, ◌∙◌, arith}
use Rattle.std.proofs.lemmas.List.Elements.{All-from_recursion}
use Rattle.std.proofs.lemmas.List.Folds.{list_all-append}
use Rattle.std.proofs.lemmas.List.Splits.{slice_split_at, slice_split_none}
use Rattle.std.specs.List.{All, AllByRecursion, filter, list_all, prefix_len, slice_split}
use Rattle.cv_asm.specs.Lines.{ends_with_colon, is_separator, line_of, line_of_pieces, pieces_of, without_comment}

-- neither `#` nor a line feed
abbrev pub is_quiet : ℕ → Bool
is_quiet b = not (b == 35) && not (b == 10)

-- a byte of a piece
abbrev pub is_plain : ℕ → Bool
is_plain b = not (is_separator b) && is_quiet b

pub record IsQuiet (s : List ℕ) : Type 0 where
  pub each : list_all is_quiet s ≡ true

pub record IsPiece (s : List ℕ) : Type 0 where
  pub some : nat_lt 0 (length s) ≡ true
  pub plain : list_all is_plain s ≡ true

pub left_of : (a b : Bool) → (a && b) ≡ true → a ≡ true
left_of true b is = refl
left_of false b is = absurd (cc)

pub right_of : (a b : Bool) → (a && b) ≡ true → b ≡ true
right_of true b is = is
right_of false b is = absurd (cc)

pub both_of : (a b : Bool) → a ≡ true → b ≡ true → (a && b) ≡ true
both_of true b first second = second
both_of false b first second = absurd (cc)

false_of : (a : Bool) → not a ≡ true → a ≡ false
false_of true is = absurd (cc)
false_of false is = refl

-- ---- quiet texts

pub quiet_append : (xs ys : List ℕ) → IsQuiet xs → IsQuiet ys → IsQuiet (xs ++ ys)
quiet_append xs ys first second = record { each = list_all-append is_quiet xs ys ∙ both_of (list_all is_quiet xs) (list_all is_quiet ys) first.each second.each }

pub quiet_cons : (y : ℕ) (ys : List ℕ) → is_quiet y ≡ true → IsQuiet ys → IsQuiet (y ∷ ys)
quiet_cons y ys first second = record { each = both_of (is_quiet y) (list_all is_quiet ys) first second.each }

quiet_plain : (s : List ℕ) → list_all is_plain s ≡ true → list_all is_quiet s ≡ true
quiet_plain [] plain = refl
quiet_plain (c ∷ cs) plain = both_of (is_quiet c) (list_all is_quiet cs) (right_of (not (is_separator c)) (is_quiet c) (left_of (is_plain c) (list_all is_plain cs) plain)) (quiet_plain cs (right_of (is_plain c) (list_all is_plain cs) plain))

pub quiet_piece : (s : List ℕ) → IsPiece s → IsQuiet s
quiet_piece s piece = record { each = quiet_plain s piece.plain }

no_feeds : (s : List ℕ) → list_all is_quiet s ≡ true → AllByRecursion (λ b. (b == 10) ≡ false) s
no_feeds [] quiet = tt
no_feeds (c ∷ cs) quiet = (false_of (c == 10) (right_of (not (c == 35)) (not (c == 10)) (left_of (is_quiet c) (list_all is_quiet cs) quiet)), no_feeds cs (right_of (is_quiet c) (list_all is_quiet cs) quiet))

-- a quiet text is cut off as a line
pub line_cut : (s rest : List ℕ) → IsQuiet s → slice_split (λ b. b == 10) (s ++ 10 ∷ rest) ≡ s ∷ slice_split (λ b. b == 10) rest
line_cut s rest quiet = slice_split_at (λ b. b == 10) s 10 rest (All-from_recursion (λ b. (b == 10) ≡ false) s (no_feeds s quiet.each)) refl

kept_whole : (c n : ℕ) (cs : List ℕ) (b : Bool) → b ≡ true → take n cs ≡ cs → take (cond b (1 + n) 0) (c ∷ cs) ≡ c ∷ cs
kept_whole c n cs true is whole =
    let next : 1 + n ≡ suc n = omega arith in
    ap (λ k. take k (c ∷ cs)) next ∙ ap (λ xs. c ∷ xs) whole
kept_whole c n cs false is whole = absurd (cc)

-- a quiet text has no comment
pub comment_none : (s : List ℕ) → list_all is_quiet s ≡ true → without_comment s ≡ s
comment_none [] quiet = refl
comment_none (c ∷ cs) quiet = kept_whole c (prefix_len (λ b. not (b == 35)) cs) cs (not (c == 35)) (left_of (not (c == 35)) (not (c == 10)) (left_of (is_quiet c) (list_all is_quiet cs) quiet)) (comment_none cs (right_of (is_quiet c) (list_all is_quiet cs) quiet))

-- ---- pieces

no_separators : (s : List ℕ) → list_all is_plain s ≡ true → AllByRecursion (λ b. is_separator b ≡ false) s
no_separators [] plain = tt
no_separators (c ∷ cs) plain = (false_of (is_separator c) (left_of (not (is_separator c)) (is_quiet c) (left_of (is_plain c) (list_all is_plain cs) plain)), no_separators cs (right_of (is_plain c) (list_all is_plain cs) plain))

all_plain : (s : List ℕ) → IsPiece s → All (λ b. is_separator b ≡ false) s
all_plain s piece = All-from_recursion (λ b. is_separator b ≡ false) s (no_separators s piece.plain)

kept : (s : List ℕ) (ps : List (List ℕ)) → nat_lt 0 (length s) ≡ true → filter (λ p. nat_lt 0 (length p)) (s ∷ ps) ≡ s ∷ filter (λ p. nat_lt 0 (length p)) ps
kept s ps some = ap (λ b. cond b (s ∷ filter (λ p. nat_lt 0 (length p)) ps) (filter (λ p. nat_lt 0 (length p)) ps)) some

pub piece_cut : (s : List ℕ) (y : ℕ) (rest : List ℕ) → IsPiece s → is_separator y ≡ true → pieces_of (s ++ y ∷ rest) ≡ s ∷ pieces_of rest
piece_cut s y rest piece parts = ap (filter (λ p. nat_lt 0 (length p))) (slice_split_at is_separator s y rest (all_plain s piece) parts) ∙ kept s (slice_split is_separator rest) piece.some

pub piece_last : (s : List ℕ) → IsPiece s → pieces_of s ≡ s ∷ []
piece_last s piece = ap (filter (λ p. nat_lt 0 (length p))) (slice_split_none is_separator s (all_plain s piece)) ∙ kept s [] piece.some

-- a line whose first piece is a name
pub line_read : (text name : List ℕ) (operands : List (List ℕ)) → IsQuiet text → pieces_of text ≡ name ∷ operands → ends_with_colon name ≡ false → line_of text ≡ record { label = None; code = name ∷ operands }
line_read text name operands quiet cut plain =
    ap (λ t. line_of_pieces (pieces_of t)) (comment_none text quiet.each) ∙ ap line_of_pieces cut
    ∙ ap (λ b. cond b (record { label = Some (take (length name - 1) name); code = operands }) (record { label = None; code = name ∷ operands })) plain
