-- The line of `drill`: what is counted over a history, which is the same from either end.
use Rattle.std.proofs.Common.{◌≡◌, ◌+◌, ℕ, Bool, true, false, cond, List, [], ◌∷◌, ◌++◌, ◌∙◌, length, length-append, append_assoc, codes, refl, ap, arith}
use Rattle.std.specs.Prelude.{filter, reverse}
use Rattle.std.specs.Fmt.{decimal}
use Rattle.std.proofs.lemmas.List.{append-nil, length-reverse, reverse-append}
use Rattle.std.proofs.lemmas.List.Elements.{filter-append}
use Rattle.cv_base.specs.declared.ends.End.{End}
use Rattle.cv_base.specs.declared.entries.Entry.{Entry}
use Rattle.cv_histories.specs.Installed.{changes}
use Rattle.cv_histories.specs.OtherTexts.{drill_text, ends_with, is_budget, is_failed, is_withdrawal}
use Rattle.cv_histories.specs.Seen.{is_exit}
use Rattle.cv_manager.specs.ManagerOf.{ManagerOf, cases_in, ledger_in, seen_in}
use Rattle.cv_report.specs.Pieces.{ends_text}

module _ {X : Type 0} (p : X → Bool) where
  -- one element more, at the end or in front
  one_more_counted : (b : Bool) (x : X) (ys zs : List X) → length ys ≡ length zs → length (ys ++ cond b (x ∷ []) []) ≡ length (cond b (x ∷ zs) zs)
  one_more_counted true x ys zs same = let longer = length-append ys (x ∷ []) in omega arith
  one_more_counted false x ys zs same = ap length (append-nil ys) ∙ same

  -- as many pass a test in a list read from its other end
  as_many_reversed : (xs : List X) → length (filter p (reverse xs)) ≡ length (filter p xs)
  as_many_reversed [] = refl
  as_many_reversed (x ∷ xs) =
      ap (λ l. length (filter p l)) (reverse-append (x ∷ []) xs)
      ∙ ap length (filter-append p (reverse xs) (x ∷ []))
      ∙ one_more_counted (p x) x (filter p (reverse xs)) (filter p xs) (as_many_reversed xs)

ends_reversed : (test : End → Bool) (past : List Entry) → ends_with test (reverse past) ≡ ends_with test past
ends_reversed test past = as_many_reversed (λ (e : Entry). test e.end) past

-- the ends of a history, the oldest entry first
pub same_ends : (past : List Entry) → ends_text (reverse past) ≡ ends_text past
same_ends past =
    let runs = length-reverse past in
    let exits = ends_reversed is_exit past in
    let failures = ends_reversed is_failed past in
    let budgets = ends_reversed is_budget past in
    cc

-- ---- the whole line

-- the end of the line, as it is formatted
rest_of_line : ℕ → ℕ → ℕ → List ℕ
rest_of_line cases versions withdrawals =
    codes " cases " ++ (decimal cases ++ (codes " versions " ++ (decimal versions ++ (codes " withdrawals " ++ (decimal withdrawals ++ codes "\n")))))

same_rest : (c cases v versions w withdrawals : ℕ) → c ≡ cases → v ≡ versions → w ≡ withdrawals
    → rest_of_line c v w ≡ rest_of_line cases versions withdrawals
same_rest c cases v versions w withdrawals opened made withdrawn =
    ap (λ n. rest_of_line n v w) opened ∙ ap (λ n. rest_of_line cases n w) made ∙ ap (λ n. rest_of_line cases versions n) withdrawn

parts_joined : (a b c d e f g h : List ℕ) → a ++ (b ++ (c ++ (d ++ (e ++ (f ++ (g ++ h)))))) ≡ a ++ b ++ c ++ d ++ e ++ f ++ g ++ h
parts_joined a b c d e f g h = simp append_assoc

line_joined : (ends : List ℕ) (cases versions withdrawals : ℕ)
    → ends ++ rest_of_line cases versions withdrawals
    ≡ ends ++ codes " cases " ++ decimal cases ++ codes " versions " ++ decimal versions ++ codes " withdrawals " ++ decimal withdrawals ++ codes "\n"
unfolding rest_of_line
line_joined ends cases versions withdrawals =
    parts_joined ends (codes " cases ") (decimal cases) (codes " versions ") (decimal versions) (codes " withdrawals ") (decimal withdrawals) (codes "\n")

-- the parts of the line are those of a manager's history
pub drill_joined : (m : ManagerOf) (text ends : List ℕ) (c v w : ℕ) → ends ≡ ends_text (reverse m.past) → c ≡ length (cases_in m)
    → v ≡ length (ledger_in m).versions → w ≡ length (filter is_withdrawal (changes m.plan (seen_in m)))
    → text ≡ ends ++ (codes " cases " ++ (decimal c ++ (codes " versions " ++ (decimal v ++ (codes " withdrawals " ++ (decimal w ++ codes "\n"))))))
    → text ≡ drill_text m.plan m.past
unfolding rest_of_line
drill_joined m text ends c v w ended opened made withdrawn formatted =
    formatted
    ∙ ap (λ l. l ++ rest_of_line c v w) (ended ∙ same_ends m.past)
    ∙ ap (λ l. ends_text m.past ++ l) (same_rest c (length (cases_in m)) v (length (ledger_in m).versions) w (length (filter is_withdrawal (changes m.plan (seen_in m)))) opened made withdrawn)
    ∙ line_joined (ends_text m.past) (length (cases_in m)) (length (ledger_in m).versions) (length (filter is_withdrawal (changes m.plan (seen_in m))))
