-- The source reads the listing of words as those words.
use Rattle.std.proofs.Common.{◌≡◌, ℕ, ◌+◌, ◌*◌, ◌^◌, ◌<◌, ◌≤◌, Bool, true, false, cond, not, ◌==◌, ◌&&◌, nat_lt, List, [], ◌∷◌, ◌++◌, length, map, codes, Option, Some, None, Result, Ok, Err, refl, sym, ap, subst, ◌∙◌, arith, append_assoc}
use Rattle.std.proofs.lemmas.Bool.Decides.{nat_tests}
use Rattle.std.specs.List.{AllByRecursion, cons_option}
use Rattle.std.specs.Option.{option_map_or}
use Rattle.std.specs.Str.{bytes_eq}
use Rattle.cv_base.specs.Text.{address_text}
use Rattle.cv_isa.specs.declared.operation.Op.{Op}
use Rattle.cv_isa.specs.declared.operation.Op.TheVariants as op
use Rattle.cv_isa.specs.DecodeTable.{meaning_of, row_of, with_fields}
use Rattle.cv_isa.specs.Instruction.{Instruction, IsInstruction, IsOfFormat}
use Rattle.cv_isa.specs.Names.{name_of, op_named, word_of}
use Rattle.cv_isa.specs.Statements.{MeaningsAreInstructions, OneWordMeans}
use Rattle.cv_asm.specs.declared.fault.AsmFault.{AsmFault}
use Rattle.cv_asm.specs.declared.fault.LineFault.{LineFault}
use Rattle.cv_asm.specs.declared.fault.LineFault.TheVariants.{UnknownName, TooManyWords}
use Rattle.cv_asm.specs.Lines.{Line, ends_with_colon, instructions, line_of, lines_of, place_in}
use Rattle.cv_asm.specs.Listing.{data_text, instruction_text, is_fence, is_other_fence, listing_of, operands_text, shown_as, shown_text, word_text}
use Rattle.cv_asm.specs.Results.{and_then}
use Rattle.cv_asm.specs.Shapes.{shape_of}
use Rattle.cv_asm.specs.Source.{data_word, known_word, line_word, named_word, on_line, source_of, within_limit, words_after}
use Rattle.cv_asm.proofs.Counting.{data_ok}
use Rattle.cv_asm.proofs.Cutting.{IsPiece, IsQuiet, line_cut, line_read, piece_cut, piece_last, quiet_append, quiet_cons, quiet_piece}
use Rattle.cv_asm.proofs.FirstDefinitions.{instructions_push}
use Rattle.cv_asm.proofs.LineLaw.{ReadsAs, reads_as}
use Rattle.cv_asm.proofs.ReadBack.{data_back, data_piece}
use Rattle.cv_asm.proofs.ShapeFields.{known_ok, shape_format}

-- ---- names

record IsName (o : Op) : Type 0 where
  some : nat_lt 0 (length (name_of o)) ≡ true
  plain : IsPiece (name_of o)
  no_label : ends_with_colon (name_of o) ≡ false
  no_data : bytes_eq (name_of o) (codes ".word") ≡ false
  read : op_named (name_of o) ≡ Some o

is_name : (o : Op) → IsName o
unfolding op_named
is_name op.Lui = record { some = refl; plain = record { some = refl; plain = refl }; no_label = refl; no_data = refl; read = refl }
is_name _ = record { some = refl; plain = record { some = refl; plain = refl }; no_label = refl; no_data = refl; read = refl }

-- ---- what a line of a listing gives, wherever it stands

record Gives (text : List ℕ) (w : ℕ) : Type 0 where
  name : List ℕ
  operands : List (List ℕ)
  quiet : IsQuiet text
  reads : line_of text ≡ record { label = None; code = name ∷ operands }
  means : (places : List ℕ → Option ℕ) (place : ℕ) → named_word places place name operands ≡ Ok w

gives_data : (w : ℕ) → w < 2 ^ 32 → Gives (data_text w) w
gives_data w small =
    let name_piece : IsPiece (codes ".word") = record { some = refl; plain = refl } in
    let piece = data_piece w small in
    let quiet : IsQuiet (data_text w) = quiet_append (codes ".word") (32 ∷ 48 ∷ 120 ∷ address_text w) (quiet_piece (codes ".word") name_piece) (quiet_cons 32 (48 ∷ 120 ∷ address_text w) refl (quiet_piece (48 ∷ 120 ∷ address_text w) piece)) in
    record {
      name = codes ".word";
      operands = (48 ∷ 120 ∷ address_text w) ∷ [];
      quiet = quiet;
      reads = line_read (data_text w) (codes ".word") ((48 ∷ 120 ∷ address_text w) ∷ []) quiet
          (piece_cut (codes ".word") 32 (48 ∷ 120 ∷ address_text w) name_piece refl ∙ ap (λ ps. codes ".word" ∷ ps) (piece_last (48 ∷ 120 ∷ address_text w) piece)) refl;
      means = λ places place. data_ok places place (48 ∷ 120 ∷ address_text w) w (sym (data_back places place 1 w small));
    }

named_by : (places : List ℕ → Option ℕ) (place : ℕ) (o : Op) (operands : List (List ℕ)) → IsName o → named_word places place (name_of o) operands ≡ known_word places place operands o
named_by places place o operands named =
    ap (λ b. cond b (data_word places place operands) (option_map_or (known_word places place operands) (op_named (name_of o)) (Err UnknownName))) named.no_data
    ∙ ap (λ p. option_map_or (known_word places place operands) p (Err UnknownName)) named.read

gives_reads : (w : ℕ) (i : Instruction) → word_of i ≡ w → IsName i.op → ReadsAs (shape_of i.op) i → Gives (instruction_text i) w
gives_reads w i is named reads =
    let quiet : IsQuiet (instruction_text i) = quiet_append (name_of i.op) (operands_text (shape_of i.op) i) (quiet_piece (name_of i.op) named.plain) reads.quiet in
    let okay : ℕ → Result ℕ LineFault = λ n. Ok n in
    record {
      name = name_of i.op;
      operands = reads.operands;
      quiet = quiet;
      reads = line_read (instruction_text i) (name_of i.op) reads.operands quiet (reads.cut (name_of i.op) named.plain) named.no_label;
      means = λ places place. named_by places place i.op reads.operands named
          ∙ known_ok places place i.op (shape_of i.op) reads.operands reads.values refl (reads.read places place)
          ∙ ap okay (ap word_of reads.again ∙ is);
    }

plain_fence : meaning_of 0x0ff0000f ≡ Some (with_fields op.Fence 0 0 0 255)
unfolding row_of
plain_fence = refl

-- a FENCE that is shown by its name is the one that the name stands for
fence_is : (w : ℕ) (i : Instruction) → meaning_of w ≡ Some i → (is_fence (shape_of i.op) && not (w == 0x0ff0000f)) ≡ false → is_fence (shape_of i.op) ≡ true → with_fields i.op 0 0 0 255 ≡ i
fence_is w i means shown fence =
    let same : w ≡ 0x0ff0000f = is_that (w == 0x0ff0000f) refl (sym (ap (λ b. b && not (w == 0x0ff0000f)) fence) ∙ shown) in
    let is : with_fields op.Fence 0 0 0 255 ≡ i = some_same (sym plain_fence ∙ ap meaning_of (sym same) ∙ means) in
    ap (λ (o : Op). with_fields o 0 0 0 255) (sym (ap (λ (j : Instruction). j.op) is)) ∙ is
  where
    is_that : (b : Bool) → (w == 0x0ff0000f) ≡ b → not b ≡ false → w ≡ 0x0ff0000f
    is_that true test off = grind (arith, nat_tests)
    is_that false test off = absurd (cc)

    some_same : {x y : Instruction} → Some x ≡ Some y → x ≡ y
    some_same e = cc

-- by the laws of words and meanings
module _ (only : OneWordMeans) (known : MeaningsAreInstructions) where
  gives_shown : (w : ℕ) (i : Instruction) (b : Bool) → w < 2 ^ 32 → meaning_of w ≡ Some i → is_other_fence w i ≡ b → Gives (shown_text w (cond b None (Some i))) w
  gives_shown w i true small means other = gives_data w small
  gives_shown w i false small means other =
      let is_known : IsInstruction i = known i w small means in
      gives_reads w i (sym (only i w small means)) (is_name i.op)
      (reads_as (shape_of i.op) i is_known (subst (λ f. IsOfFormat f i) (shape_format i.op) is_known.of_format) (fence_is w i means other))

  gives_meaning : (w : ℕ) (o : Option Instruction) → w < 2 ^ 32 → meaning_of w ≡ o → Gives (shown_text w (shown_as w o)) w
  gives_meaning w None small means = gives_data w small
  gives_meaning w (Some i) small means = gives_shown w i (is_other_fence w i) small means refl

  gives : (w : ℕ) → w < 2 ^ 32 → Gives (word_text w) w
  unfolding word_text
  gives w small = gives_meaning w (meaning_of w) small refl

  -- ---- all lines

  listing_lines : (ws : List ℕ) → AllByRecursion (λ w. w < 2 ^ 32) ws → map line_of (lines_of (listing_of ws)) ≡ map (λ w. line_of (word_text w)) ws ++ line_of [] ∷ []
  listing_lines [] small = refl
  listing_lines (w ∷ ws) small =
      let together : (word_text w ++ 10 ∷ []) ++ listing_of ws ≡ word_text w ++ 10 ∷ listing_of ws = simp append_assoc in
      ap (λ t. map line_of (lines_of t)) together
      ∙ ap (map line_of) (line_cut (word_text w) (listing_of ws) (gives w small.0).quiet)
      ∙ ap (λ (ls : List Line). line_of (word_text w) ∷ ls) (listing_lines ws small.1)

  one_line : (all before : List Line) (w : ℕ) (text : List ℕ) → Gives text w → instructions before < 65536 → line_word all before (line_of text) ≡ Ok (Some w)
  one_line all before w text given few =
      ap (line_word all before) given.reads
      ∙ ap (λ (r : Result ℕ LineFault). and_then r (within_limit (instructions before))) (given.means (place_in all) (4 * instructions before))
      ∙ limit (instructions before) (nat_lt (instructions before) 65536) refl few
    where
      limit : (n : ℕ) (b : Bool) → nat_lt n 65536 ≡ b → n < 65536 → ◌≡◌ {A = Result (Option ℕ) LineFault} (cond b (Ok (Some w)) (Err TooManyWords)) (Ok (Some w))
      limit n true is small = refl
      limit n false is small = absurd (grind (arith, nat_tests))

  counted : (before : List Line) (w : ℕ) (text : List ℕ) → Gives text w → instructions (before ++ line_of text ∷ []) ≡ instructions before + 1
  counted before w text given =
      instructions_push before (line_of text) ∙ ap (λ (x : Line). instructions before + cond (nat_lt 0 (length x.code)) 1 0) given.reads
      ∙ ap (λ b. instructions before + cond b 1 0) some
    where
      some : nat_lt 0 (length (given.name ∷ given.operands)) ≡ true
      some = grind (arith, nat_tests)

  all_words : (all before : List Line) (ws : List ℕ) → AllByRecursion (λ w. w < 2 ^ 32) ws → instructions before + length ws ≤ 65536
      → words_after all before (map (λ w. line_of (word_text w)) ws ++ line_of [] ∷ []) ≡ Ok ws
  all_words all before [] small few = refl
  all_words all before (w ∷ ws) small few =
      let given = gives w small.0 in
      let first : line_word all before (line_of (word_text w)) ≡ Ok (Some w) = one_line all before w (word_text w) given (omega arith) in
      let more : instructions (before ++ line_of (word_text w) ∷ []) ≡ instructions before + 1 = counted before w (word_text w) given in
      let rest : words_after all (before ++ line_of (word_text w) ∷ []) (map (λ v. line_of (word_text v)) ws ++ line_of [] ∷ []) ≡ Ok ws = all_words all (before ++ line_of (word_text w) ∷ []) ws small.1 (omega arith) in
      ap (λ (r : Result (Option ℕ) LineFault). and_then (on_line (length before + 1) r) (λ word. and_then (words_after all (before ++ line_of (word_text w) ∷ []) (map (λ v. line_of (word_text v)) ws ++ line_of [] ∷ [])) (λ words. Ok (cons_option word words)))) first
      ∙ ap (λ (r : Result (List ℕ) AsmFault). and_then r (λ words. Ok (w ∷ words))) rest

  pub listing_read : (ws : List ℕ) → AllByRecursion (λ w. w < 2 ^ 32) ws → length ws ≤ 65536 → source_of (listing_of ws) ≡ Ok ws
  listing_read ws small few =
      let lines = map line_of (lines_of (listing_of ws)) in
      ap (words_after lines []) (listing_lines ws small) ∙ all_words lines [] ws small (omega arith)
