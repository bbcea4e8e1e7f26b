-- The piece of a round: the entry lines by which a history has grown.
use Rattle.std.proofs.Common.{◌≡◌, ℕ, ◌+◌, ◌<◌, ◌≤◌, List, ◌++◌, ◌∙◌, length, get_or, take, refl, sym, ap, arith, append_assoc}
use Rattle.std.specs.Prelude.{reverse}
use Rattle.std.proofs.Math.Seq.{take-append_seam}
use Rattle.std.proofs.lemmas.List.{length-reverse, length-take-le, reverse-append, reverse-reverse, take_all}
use Rattle.cv_audit.specs.Statements.{OneMoreEntry}
use Rattle.cv_base.specs.declared.entries.Entry.{Entry}
use Rattle.cv_base.specs.PlanOf.{IsPlan, PlanOf}
use Rattle.cv_desk.specs.Standing.{IsClosed}
use Rattle.cv_histories.specs.Legal.{IsLegal}
use Rattle.cv_histories.specs.Report.{entry_line, entry_lines, line}
use Rattle.cv_laws.specs.RoundStatements.{RunsAreCounted}
use Rattle.cv_laws.specs.Statements.{LegalIsFew}
use Rattle.cv_manager.specs.ManagerOf.{ManagerOf}
use Rattle.cv_resume.specs.Resumed.{IsPieceOf}

-- one entry's line more
pub one_line_more : OneMoreEntry → (entries : List Entry) (first k : ℕ) (e : Entry) (text new_line new : List ℕ) → k < length entries → e ≡ get_or entries k e
    → entry_lines (reverse (take k entries)) ≡ entry_lines (reverse (take first entries)) ++ text → new_line ≡ line (entry_line k e) → new ≡ text ++ new_line
    → entry_lines (reverse (take (k + 1) entries)) ≡ entry_lines (reverse (take first entries)) ++ new
one_line_more one_more entries first k e text new_line new within is so_far its added =
    let reach : k ≤ length entries = omega arith in
    let seen : length (reverse (take k entries)) ≡ k = length-reverse (take k entries) ∙ length-take-le k entries reach in
    let old = entry_lines (reverse (take first entries)) in
    ap entry_lines (one_more entries k e within is)
    ∙ ap (λ (n : ℕ). entry_lines (reverse (take k entries)) ++ line (entry_line n e)) seen
    ∙ ap (λ (l : List ℕ). l ++ line (entry_line k e)) so_far
    ∙ append_assoc old text (line (entry_line k e))
    ∙ ap (λ (l : List ℕ). old ++ (text ++ l)) (sym its)
    ∙ ap (λ (l : List ℕ). old ++ l) (sym added)

-- all lines
pub all_lines : (entries : List Entry) (first k : ℕ) (text piece : List ℕ) → length entries ≤ k
    → entry_lines (reverse (take k entries)) ≡ entry_lines (reverse (take first entries)) ++ text → piece ≡ text
    → entry_lines (reverse entries) ≡ entry_lines (reverse (take first entries)) ++ piece
all_lines entries first k text piece all so_far is =
    ap (λ (es : List Entry). entry_lines (reverse es)) (sym (take_all k entries all)) ∙ so_far ∙ ap (λ (l : List ℕ). entry_lines (reverse (take first entries)) ++ l) (sym is)

-- a legal history of a plan has few entries
pub few_in : LegalIsFew → RunsAreCounted → (plan : PlanOf) (past : List Entry) → IsPlan plan → IsLegal plan past → length past ≤ 1024
few_in is_few counted plan past limits legal = omega (arith, is_few plan past legal, counted plan plan.rounds refl, limits.few_runs)

-- the entries before those of a round
before_round : (more before history : List Entry) (first : ℕ) → history ≡ reverse (more ++ before) → first ≡ length before → take first history ≡ reverse before
before_round more before history first is at =
    ap (λ (es : List Entry). take first es) (is ∙ reverse-append more before)
    ∙ ap (λ (n : ℕ). take n (reverse before ++ reverse more)) (at ∙ sym (length-reverse before))
    ∙ take-append_seam (reverse before) (reverse more)

-- a round's lines
pub is_piece : (from now : ManagerOf) (round : ℕ) (history : List Entry) (first : ℕ) (piece : List ℕ) → IsClosed (record { plan = from.plan; past = from.past; round = round }) now → history ≡ reverse now.past → first ≡ length from.past
    → entry_lines (reverse history) ≡ entry_lines (reverse (take first history)) ++ piece → IsPieceOf from.plan round from.past now.past piece
is_piece from now round history first piece closed is at lines =
    let front = before_round closed.more from.past history first (is ∙ ap (λ (es : List Entry). reverse es) closed.behind) at in
    record {
      more = closed.more;
      behind = closed.behind;
      up_to = closed.up_to;
      lines = sym (ap (λ (es : List Entry). entry_lines es) (ap (λ (es : List Entry). reverse es) is ∙ reverse-reverse now.past))
          ∙ lines
          ∙ ap (λ (es : List Entry). entry_lines es ++ piece) (ap (λ (es : List Entry). reverse es) front ∙ reverse-reverse from.past);
    }
