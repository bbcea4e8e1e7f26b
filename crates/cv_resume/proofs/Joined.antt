-- Pieces, joined, are the entry lines of the history that they hold.
use Rattle.std.proofs.Common.{◌≡◌, ℕ, ◌+◌, ◌-◌, ◌^◌, ◌<◌, ◌≤◌, ◌==◌, Bool, true, false, cond, List, [], ◌∷◌, ◌++◌, ◌∙◌, Option, Some, None, Result, Ok, Err, length, take, refl, sym, ap, ⊎_elim, arith, append_assoc, length-append, eqb-true}
use Rattle.std.specs.List.{concat, flat_map, join_with_byte}
use Rattle.std.specs.Prelude.{IfOk, option_and_then, option_map, reverse, slice_index}
use Rattle.std.proofs.lemmas.Bool.{cases_lt}
use Rattle.std.proofs.lemmas.List.{append-nil, length-reverse, reverse-append, take_all, take_more}
use Rattle.cv_audit.specs.Judged.{IsBookOf}
use Rattle.cv_base.specs.declared.entries.Entry.{Entry}
use Rattle.cv_base.specs.PlanOf.{PlanOf}
use Rattle.cv_histories.specs.Report.{entry_line, entry_lines, line}
use Rattle.cv_journal.specs.EntryReading.{entry_in}
use Rattle.cv_journal.specs.Reading.{both, only_where, pieces}
use Rattle.cv_journal.specs.Statements.{NumbersAreReadBack, PiecesJoin, SomePiece}
use Rattle.cv_resume.specs.Kept.{entries_at, entries_behind, entries_in, entries_of, is_ended, lines_in, with_piece}
use Rattle.cv_resume.specs.declared.faults.RestoreFail.{RestoreFail}
use Rattle.cv_resume.specs.declared.restoring.Restored.{Restored}
use Rattle.cv_resume.proofs.Lines.{Exactly, none_past}

-- ---- texts and their lines

ended_joined : (text : List ℕ) (texts : List (List ℕ)) → flat_map line (text ∷ texts) ≡ join_with_byte 10 (text ∷ texts) ++ 10 ∷ []
ended_joined text [] = append-nil (text ++ 10 ∷ [])
ended_joined text (next ∷ texts) =
    let rest = join_with_byte 10 (next ∷ texts) in
    ap (λ (t : List ℕ). line text ++ t) (ended_joined next texts)
    ∙ append_assoc text (10 ∷ []) (rest ++ 10 ∷ [])
    ∙ sym (append_assoc text (10 ∷ rest) (10 ∷ []))

joined_lines : (texts : List (List ℕ)) (t : List ℕ) → (texts ≡ [] → ⊥) → join_with_byte 10 texts ≡ t → flat_map line texts ≡ t ++ 10 ∷ []
joined_lines [] t some is = absurd (some refl)
joined_lines (text ∷ texts) t some is = ended_joined text texts ∙ ap (λ (l : List ℕ). l ++ 10 ∷ []) is

-- a text without its last byte, and that
last_put : (p : List ℕ) → slice_index p (length p - 1) ≡ 10 → take (length p - 1) p ++ 10 ∷ [] ≡ p
last_put [] at = absurd cc
last_put (b ∷ bs) at =
    let n : length (b ∷ bs) - 1 < length (b ∷ bs) = omega arith in
    let all : length (b ∷ bs) ≤ length (b ∷ bs) - 1 + 1 = omega arith in
    ap (λ (x : ℕ). take (length (b ∷ bs) - 1) (b ∷ bs) ++ x ∷ []) (sym at)
    ∙ sym (take_more (b ∷ bs) (length (b ∷ bs) - 1) 0 n)
    ∙ take_all (length (b ∷ bs) - 1 + 1) (b ∷ bs) all

module _ (law : Exactly) (read_back : NumbersAreReadBack) (join_again : PiecesJoin) (some_piece : SomePiece) where
  -- ---- one line

  small : (k : ℕ) (text : List ℕ) (e : Entry) → entry_in k text ≡ Some e → k < 2 ^ 32
  small k text e is = ⊎_elim (λ low. low) (λ past. let none = none_past read_back k text past in absurd cc) (cases_lt k (2 ^ 32))

  its_line : (k : ℕ) (text : List ℕ) (e : Entry) → entry_in k text ≡ Some e → text ≡ entry_line k e
  its_line k text e is = ((law k (small k text e is) text e).0 is).1

  -- ---- lines

  line_grows : (k : ℕ) (before more : List Entry) (text : List ℕ) (texts : List (List ℕ)) (o : Option Entry) (rest : Option (List Entry)) → k ≡ length before → entry_in k text ≡ o → option_map (λ (q : Entry × List Entry). q.0 ∷ q.1) (both o rest) ≡ Some more
      → ((b m : List Entry) → k + 1 ≡ length b → rest ≡ Some m → entry_lines (reverse (b ++ m)) ≡ entry_lines (reverse b) ++ flat_map line texts)
      → entry_lines (reverse (before ++ more)) ≡ entry_lines (reverse before) ++ (line text ++ flat_map line texts)
  line_grows k before more text texts None rest count read is later = absurd cc
  line_grows k before more text texts (Some e) None count read is later = absurd cc
  line_grows k before more text texts (Some e) (Some es) count read is later =
      let all : e ∷ es ≡ more = cc in
      let longer : k + 1 ≡ length (before ++ e ∷ []) = omega (arith, length-append before (e ∷ [])) in
      ap (λ (m : List Entry). entry_lines (reverse (before ++ m))) (sym all)
      ∙ ap (λ (m : List Entry). entry_lines (reverse m)) (sym (append_assoc before (e ∷ []) es))
      ∙ later (before ++ e ∷ []) es longer refl
      ∙ ap (λ (m : List Entry). entry_lines m ++ flat_map line texts) (reverse-append before (e ∷ []))
      ∙ ap (λ (n : ℕ). (entry_lines (reverse before) ++ line (entry_line n e)) ++ flat_map line texts) (length-reverse before ∙ sym count)
      ∙ ap (λ (t : List ℕ). (entry_lines (reverse before) ++ line t) ++ flat_map line texts) (sym (its_line k text e read))
      ∙ append_assoc (entry_lines (reverse before)) (line text) (flat_map line texts)

  lines_grow : (k : ℕ) (before more : List Entry) (texts : List (List ℕ)) → k ≡ length before → entries_at k texts ≡ Some more
      → entry_lines (reverse (before ++ more)) ≡ entry_lines (reverse before) ++ flat_map line texts
  lines_grow k before more [] count is =
      let none : [] ≡ more = cc in
      ap (λ (m : List Entry). entry_lines (reverse m)) (ap (λ (m : List Entry). before ++ m) (sym none) ∙ append-nil before) ∙ sym (append-nil (entry_lines (reverse before)))
  lines_grow k before more (text ∷ texts) count is =
      line_grows k before more text texts (entry_in k text) (entries_at (k + 1) texts) count refl is
      (λ b m longer read. lines_grow (k + 1) b m texts longer read)

  -- ---- one piece

  piece_by : (before more : List Entry) (p : List ℕ) (ended : Bool) → is_ended p ≡ ended
      → option_and_then (entries_at (length before)) (only_where ended (Some (pieces 10 (take (length p - 1) p)))) ≡ Some more
      → entry_lines (reverse (before ++ more)) ≡ entry_lines (reverse before) ++ p
  piece_by before more p false ended is = absurd cc
  piece_by before more p true ended is =
      let text = take (length p - 1) p in
      lines_grow (length before) before more (pieces 10 text) refl is
      ∙ ap (λ (t : List ℕ). entry_lines (reverse before) ++ t)
      (joined_lines (pieces 10 text) text (some_piece 10 text) (join_again 10 text) ∙ last_put p (eqb-true (slice_index p (length p - 1)) 10 ended))

  piece_grows : (before more : List Entry) (p : List ℕ) → entries_in (length before) p ≡ Some more
      → entry_lines (reverse (before ++ more)) ≡ entry_lines (reverse before) ++ p
  unfolding lines_in
  piece_grows before more p is = piece_by before more p (is_ended p) refl is

  -- ---- pieces

  next_by : (number : ℕ) (before es : List Entry) (p : List ℕ) (ps : List (List ℕ)) (last : Bool) (o : Option (List Entry)) → entries_in (length before) p ≡ o
      → cond {A = Result (List Entry) ℕ} last (Err number) (with_piece number o (λ more. entries_behind (number + 1) (before ++ more) ps)) ≡ Ok es
      → ((b : List Entry) → entries_behind (number + 1) b ps ≡ Ok es → entry_lines (reverse es) ≡ entry_lines (reverse b) ++ concat ps)
      → entry_lines (reverse es) ≡ entry_lines (reverse before) ++ (p ++ concat ps)
  next_by number before es p ps true o read is later = absurd cc
  next_by number before es p ps false None read is later = absurd cc
  next_by number before es p ps false (Some more) read is later =
      later (before ++ more) is
      ∙ ap (λ (t : List ℕ). t ++ concat ps) (piece_grows before more p read)
      ∙ append_assoc (entry_lines (reverse before)) p (concat ps)

  pieces_grow : (number : ℕ) (before es : List Entry) (ps : List (List ℕ)) → entries_behind number before ps ≡ Ok es
      → entry_lines (reverse es) ≡ entry_lines (reverse before) ++ concat ps
  pieces_grow number before es [] is =
      let same : before ≡ es = cc in
      ap (λ (m : List Entry). entry_lines (reverse m)) (sym same) ∙ sym (append-nil (entry_lines (reverse before)))
  pieces_grow number before es (p ∷ ps) is =
      next_by number before es p ps (number == 1024) (entries_in (length before) p) refl is (λ b held. pieces_grow (number + 1) b es ps held)

  -- the pieces that hold these entries
  pub held_joined : (ps : List (List ℕ)) (es : List Entry) → entries_of ps ≡ Ok es → concat ps ≡ entry_lines (reverse es)
  held_joined ps es is = sym (pieces_grow 0 [] es ps is)

  -- and so of the history of the book that was made of them
  pub book_joined : (plan : PlanOf) (ps : List (List ℕ)) (es : List Entry) (answer : Result Restored RestoreFail) → entries_of ps ≡ Ok es → IfOk answer (λ (r : Restored). IsBookOf plan es r.book)
      → IfOk answer (λ (r : Restored). concat ps ≡ entry_lines r.book.past)
  book_joined plan ps es (Ok r) held book = held_joined ps es held ∙ ap (λ (past : List Entry). entry_lines past) (sym book.past)
  book_joined plan ps es (Err fail) held book = book
