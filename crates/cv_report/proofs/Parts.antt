-- Parts of a line, joined.
use Rattle.std.proofs.Common.{◌≡◌, ℕ, ℤ, List, ◌++◌, append_assoc, ap, codes, map, sym, ◌∙◌}
use Rattle.std.specs.Fmt.{decimal, signed_decimal}
use Rattle.cv_base.specs.declared.entries.Entry.{Entry}
use Rattle.cv_base.specs.EndText.{end_text}
use Rattle.cv_base.specs.InvariantText.{list_text}
use Rattle.cv_base.specs.Text.{address_text}
use Rattle.cv_histories.specs.Report.{entry_line}
use Rattle.cv_histories.specs.Texts.{adopted_text, fired_text, tally_text}
use Rattle.cv_report.specs.Pieces.{course_text, outcome_text, run_text, score_text}
use Rattle.cv_runs.specs.PlainText.{bytes_text}

-- six and eight parts behind a first one
pub joined6 : (first a b c d e f : List ℕ) → first ++ (a ++ b ++ c ++ d ++ e ++ f) ≡ first ++ a ++ b ++ c ++ d ++ e ++ f
joined6 first a b c d e f = simp append_assoc

pub joined8 : (first a b c d e f g h : List ℕ) → first ++ (a ++ b ++ c ++ d ++ e ++ f ++ g ++ h) ≡ first ++ a ++ b ++ c ++ d ++ e ++ f ++ g ++ h
joined8 first a b c d e f g h = simp append_assoc

three_and_end : (a b c d : List ℕ) → a ++ (b ++ (c ++ d)) ≡ a ++ b ++ c ++ d
three_and_end a b c d = simp append_assoc

course_joined : (first : List ℕ) (e : Entry) → first ++ course_text e ≡ first ++ codes " adopted " ++ list_text (map adopted_text e.adopted) ++ codes " end " ++ end_text e.end ++ codes " turns " ++ decimal e.turns ++ codes " sites " ++ list_text (map address_text e.sites)
course_joined first e =
    joined8 first (codes " adopted ") (list_text (map adopted_text e.adopted)) (codes " end ") (end_text e.end) (codes " turns ") (decimal e.turns) (codes " sites ") (list_text (map address_text e.sites))

outcome_joined : (first : List ℕ) (e : Entry) → first ++ outcome_text e ≡ first ++ codes " output " ++ bytes_text e.output ++ codes " tally " ++ list_text (map tally_text e.tally) ++ codes " fired " ++ list_text (map fired_text e.fired)
outcome_joined first e =
    joined6 first (codes " output ") (bytes_text e.output) (codes " tally ") (list_text (map tally_text e.tally)) (codes " fired ") (list_text (map fired_text e.fired))

whole : (i : ℕ) (e : Entry) → run_text i e ++ course_text e ++ outcome_text e ≡ entry_line i e
whole i e =
    outcome_joined (run_text i e ++ course_text e) e
    ∙ ap (λ l. l ++ codes " output " ++ bytes_text e.output ++ codes " tally " ++ list_text (map tally_text e.tally) ++ codes " fired " ++ list_text (map fired_text e.fired)) (course_joined (run_text i e) e)

pub entry_joined : (i : ℕ) (e : Entry) (run course outcome end : List ℕ) → run ≡ run_text i e → course ≡ course_text e → outcome ≡ outcome_text e → run ++ (course ++ (outcome ++ end)) ≡ entry_line i e ++ end
entry_joined i e run course outcome end r c o =
    ap (λ l. l ++ (course ++ (outcome ++ end))) r
    ∙ ap (λ l. run_text i e ++ (l ++ (outcome ++ end))) c
    ∙ ap (λ l. run_text i e ++ (course_text e ++ (l ++ end))) o
    ∙ three_and_end (run_text i e) (course_text e) (outcome_text e) end
    ∙ ap (λ l. l ++ end) (whole i e)

module _ (wins fails w f : ℕ) (points p : ℤ) where
  same_score : w ≡ wins → f ≡ fails → p ≡ points → score_text w f p ≡ score_text wins fails points
  same_score won failed scored =
      ap (λ n. score_text n f p) won ∙ ap (λ n. score_text wins n p) failed ∙ ap (λ (n : ℤ). score_text wins fails n) scored

  pub repair_joined : (text score end named : List ℕ) → text ≡ named → w ≡ wins → f ≡ fails → p ≡ points → score ≡ score_text w f p
      → text ++ (score ++ end) ≡ named ++ codes " wins " ++ decimal wins ++ codes " fails " ++ decimal fails ++ codes " score " ++ signed_decimal points ++ end
  repair_joined text score end named t won failed scored s =
      ap (λ l. l ++ (score ++ end)) t
      ∙ ap (λ l. named ++ (l ++ end)) (s ∙ same_score won failed scored)
      ∙ sym (append_assoc named (score_text wins fails points) end)
      ∙ ap (λ l. l ++ end) (joined6 named (codes " wins ") (decimal wins) (codes " fails ") (decimal fails) (codes " score ") (signed_decimal points))
