use Rattle.std.proofs.Common.{◌≡◌, ℕ, ◌+◌, ◌<◌, ◌++◌, Bool, cond, List, [], ◌∷◌, length, nat_lt, get_or, take, Option, Some, None, Result, Ok, Err, refl, sym, ap, ◌∙◌, arith, rules}
use Rattle.std.specs.Borrow.{Bor}
use Rattle.cv_asm.specs.declared.fault.LineFault.{LineFault}
use Rattle.cv_asm.specs.Labels.{read_lines, texts_of}
use Rattle.cv_asm.specs.Lines.{instructions, line_of, line_of_pieces, pieces_of, without_comment}
use Rattle.cv_asm.proofs.FirstDefinitions.{instructions_more, same_read}
use Rattle.cv_asm.proofs.Stepping.{line_by, read_after, reading_from, step_fault, step_none, step_word, told}
use Rattle.cv_asm.proofs.assembler.words.Goals as goal

abbrev if_so : Bool → ℕ
if_so b = cond b 1 0

pub loop-i-preserved-in-Ok-None : goal.loop-i-preserved-in-Ok-None
loop-i-preserved-in-Ok-None c =
    let d : Bor (List ℕ) = record { ref_ptr = (0, 0); now = [] } in
    let line : Bor (List ℕ) = get_or c.args.lines.now c.loop-i.i d in
    let within : c.loop-i.i < length c.args.lines.now = omega arith in
    let read : line ≡ get_or c.args.lines.now c.loop-i.i line = same_read c.args.lines.now c.loop-i.i d line within in
    let same : texts_of c.as_slice.result.now ≡ pieces_of (without_comment line.now) = ap texts_of c.as_slice.ensures.value ∙ c.in-Ok.ensures ∙ ap pieces_of c.without_comment.ensures in
    let by_pieces : c.line_word.result ≡ line_by c.args.labels.now c.loop-i.i c.loop-i.before (line_of line.now) = c.line_word.ensures ∙ ap (λ (ps : List (List ℕ)). line_by c.args.labels.now c.loop-i.i c.loop-i.before (line_of_pieces ps)) same in
    let okay : Option ℕ → Result (Option ℕ) LineFault = λ o. Ok o in
    let said : Ok None ≡ line_by c.args.labels.now c.loop-i.i c.loop-i.before (line_of line.now) = sym (c.in-Ok-None.is ∙ ap okay c.in-Ok-None.field-0-is) ∙ by_pieces in
    let more : instructions (read_lines (take (c.loop-i.i + 1) c.args.lines.now)) ≡ instructions (read_lines (take c.loop-i.i c.args.lines.now)) + cond (nat_lt 0 (length (line_of line.now).code)) 1 0 = instructions_more c.args.lines.now c.loop-i.i line within read in
    let has : ◌≡◌ {A = ℕ} (cond (nat_lt 0 (length (line_of line.now).code)) 1 0) 0 = ap if_so (told c.args.labels.now c.loop-i.i c.loop-i.before (line_of line.now) None said).has in
    record {
      so_far = sym (step_none c.args.lines.now c.args.labels.now c.loop-i.i c.loop-i.before line c.loop-i.words.items within read c.requires.labels c.loop-i.invariant.counted said) ∙ c.loop-i.invariant.so_far;
      counted = omega (arith, more, has, c.loop-i.invariant.counted);
      few = c.loop-i.invariant.few;
    }

pub returns-in-Err : goal.returns-in-Err
returns-in-Err c =
    let d : Bor (List ℕ) = record { ref_ptr = (0, 0); now = [] } in
    let line : Bor (List ℕ) = get_or c.args.lines.now c.loop-i.i d in
    let within : c.loop-i.i < length c.args.lines.now = omega arith in
    let read : line ≡ get_or c.args.lines.now c.loop-i.i line = same_read c.args.lines.now c.loop-i.i d line within in
    let same : texts_of c.as_slice.result.now ≡ pieces_of (without_comment line.now) = ap texts_of c.as_slice.ensures.value ∙ c.in-Ok.ensures ∙ ap pieces_of c.without_comment.ensures in
    let by_pieces : c.line_word.result ≡ line_by c.args.labels.now c.loop-i.i c.loop-i.before (line_of line.now) = c.line_word.ensures ∙ ap (λ (ps : List (List ℕ)). line_by c.args.labels.now c.loop-i.i c.loop-i.before (line_of_pieces ps)) same in
    let said : Err c.in-Err.fault ≡ line_by c.args.labels.now c.loop-i.i c.loop-i.before (line_of line.now) = sym c.in-Err.is ∙ by_pieces in
    sym c.loop-i.invariant.so_far ∙ step_fault c.args.lines.now c.args.labels.now c.loop-i.i c.loop-i.before line c.loop-i.words.items c.in-Err.fault within read c.requires.labels c.loop-i.invariant.counted said

pub loop-i-preserved : goal.loop-i-preserved
loop-i-preserved c =
    let d : Bor (List ℕ) = record { ref_ptr = (0, 0); now = [] } in
    let line : Bor (List ℕ) = get_or c.args.lines.now c.loop-i.i d in
    let within : c.loop-i.i < length c.args.lines.now = omega arith in
    let read : line ≡ get_or c.args.lines.now c.loop-i.i line = same_read c.args.lines.now c.loop-i.i d line within in
    let same : texts_of c.as_slice.result.now ≡ pieces_of (without_comment line.now) = ap texts_of c.as_slice.ensures.value ∙ c.in-Ok.ensures ∙ ap pieces_of c.without_comment.ensures in
    let by_pieces : c.line_word.result ≡ line_by c.args.labels.now c.loop-i.i c.loop-i.before (line_of line.now) = c.line_word.ensures ∙ ap (λ (ps : List (List ℕ)). line_by c.args.labels.now c.loop-i.i c.loop-i.before (line_of_pieces ps)) same in
    let okay : Option ℕ → Result (Option ℕ) LineFault = λ o. Ok o in
    let said : Ok (Some c.in-Ok-Some.word) ≡ line_by c.args.labels.now c.loop-i.i c.loop-i.before (line_of line.now) = sym (c.in-Ok-Some.is ∙ ap okay c.in-Ok-Some.field-0-is) ∙ by_pieces in
    let more : instructions (read_lines (take (c.loop-i.i + 1) c.args.lines.now)) ≡ instructions (read_lines (take c.loop-i.i c.args.lines.now)) + cond (nat_lt 0 (length (line_of line.now).code)) 1 0 = instructions_more c.args.lines.now c.loop-i.i line within read in
    let tells = told c.args.labels.now c.loop-i.i c.loop-i.before (line_of line.now) (Some c.in-Ok-Some.word) said in
    let has : ◌≡◌ {A = ℕ} (cond (nat_lt 0 (length (line_of line.now).code)) 1 0) 1 = ap if_so tells.has in
    let below : c.loop-i.before < 65536 = tells.few refl in
    let pushed : c.push.new.self.items ≡ c.loop-i.words.items ++ c.in-Ok-Some.word ∷ [] = search rules in
    record {
      so_far = ap (λ ws. read_after ws (reading_from c.args.lines.now (c.loop-i.i + 1))) pushed
          ∙ sym (step_word c.args.lines.now c.args.labels.now c.loop-i.i c.loop-i.before line c.loop-i.words.items c.in-Ok-Some.word within read c.requires.labels c.loop-i.invariant.counted said) ∙ c.loop-i.invariant.so_far;
      counted = omega (arith, more, has, c.loop-i.invariant.counted);
      few = omega (arith, below);
    }
