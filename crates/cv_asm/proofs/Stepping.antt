-- One line more of a source that is read line after line.
use Rattle.std.proofs.Common.{◌≡◌, ℕ, ◌+◌, ◌<◌, ◌≤◌, ◌*◌, ◌==◌, Bool, true, false, cond, nat_lt, List, [], ◌∷◌, ◌++◌, length, zero, suc, take, drop, map, get_or, Option, Some, None, Result, Ok, Err, refl, sym, ap, ◌∙◌, arith, add-one, append_assoc, drop-cons, length-take}
use Rattle.std.proofs.Math.Seq.{take-suc}
use Rattle.std.proofs.lemmas.List.{length-map, map-append}
use Rattle.std.specs.BTreeMap.{BTreeMap}
use Rattle.std.specs.Borrow.{Bor}
use Rattle.std.proofs.lemmas.Bool.Decides.{nat_tests}
use Rattle.std.proofs.lemmas.List.Splits.{length-slice_split}
use Rattle.std.proofs.lemmas.List.Sums.{count_by-le-length}
use Rattle.std.specs.List.{cons_option, count_by}
use Rattle.std.specs.Option.{is_some}
use Rattle.cv_asm.specs.declared.fault.AsmFault.{AsmFault}
use Rattle.cv_asm.specs.declared.fault.LineFault.{LineFault}
use Rattle.cv_asm.specs.declared.fault.LineFault.TheVariants.{TooManyWords}
use Rattle.cv_asm.specs.declared.labels.Definition.{Definition}
use Rattle.cv_asm.specs.Labels.{AreLabels, is_earlier, place_by, read_lines, texts_of}
use Rattle.cv_asm.specs.Lines.{Line, instructions, line_of, lines_of, place_in}
use Rattle.cv_asm.specs.Results.{and_then, unless}
use Rattle.cv_asm.specs.Source.{code_word, fault_of_label, is_defined, line_word, named_word, on_line, within_limit, words_after}
use Rattle.cv_asm.proofs.FirstDefinitions.{earlier_are, places_are}

-- the words so far, and those of the rest
abbrev pub read_after : List ℕ → Result (List ℕ) AsmFault → Result (List ℕ) AsmFault
read_after words rest = and_then rest (λ more. Ok (words ++ more))

-- what is read of the lines from line i on
abbrev pub reading_from : List (Bor (List ℕ)) → ℕ → Result (List ℕ) AsmFault
reading_from lines i = words_after (read_lines lines) (read_lines (take i lines)) (read_lines (drop i lines))

-- what the code reads of a line
abbrev pub line_by : BTreeMap (Bor (List ℕ)) Definition → ℕ → ℕ → Line → Result (Option ℕ) LineFault
line_by labels i before x = unless (fault_of_label (is_earlier labels i) x.label) (code_word (place_by labels) before x.code)

lines_long : (lines : List (Bor (List ℕ))) → length (read_lines lines) ≡ length lines
lines_long lines = simp length-map

lines_taken : (lines : List (Bor (List ℕ))) (i : ℕ) → read_lines (take i lines) ≡ take i (read_lines lines)
lines_taken [] zero = refl
lines_taken [] (suc i) = refl
lines_taken (l ∷ ls) zero = refl
lines_taken (l ∷ ls) (suc i) = ap (λ (xs : List Line). line_of l.now ∷ xs) (lines_taken ls i)

-- by the map, a line says what it says by all lines
line_is : (lines : List (Bor (List ℕ))) (labels : BTreeMap (Bor (List ℕ)) Definition) (i before : ℕ) (x : Line) → i ≤ length lines → AreLabels (read_lines lines) labels
    → before ≡ instructions (read_lines (take i lines)) → line_by labels i before x ≡ line_word (read_lines lines) (read_lines (take i lines)) x
line_is lines labels i before x within known counted =
    let inside : i ≤ length (read_lines lines) = omega (arith, lines_long lines) in
    ap (λ (test : List ℕ → Bool). unless (fault_of_label test x.label) (code_word (place_by labels) before x.code))
    (earlier_are (read_lines lines) labels known i inside ∙ ap is_defined (sym (lines_taken lines i)))
    ∙ ap (λ (places : List ℕ → Option ℕ). unless (fault_of_label (is_defined (read_lines (take i lines))) x.label) (code_word places before x.code)) (places_are (read_lines lines) labels known)
    ∙ ap (λ n. unless (fault_of_label (is_defined (read_lines (take i lines))) x.label) (code_word (place_in (read_lines lines)) n x.code)) counted

first_left : (lines : List (Bor (List ℕ))) (i : ℕ) (line : Bor (List ℕ)) → i < length lines → line ≡ get_or lines i line
    → reading_from lines i ≡ and_then (on_line (i + 1) (line_word (read_lines lines) (read_lines (take i lines)) (line_of line.now))) (λ word. and_then (reading_from lines (i + 1)) (λ words. Ok (cons_option word words)))
first_left lines i line within read =
    let rest : drop i lines ≡ line ∷ drop (i + 1) lines = drop-cons lines i line within ∙ ap (λ (m : Bor (List ℕ)). m ∷ drop (suc i) lines) (sym read) ∙ ap (λ n. line ∷ drop n lines) (sym (add-one i)) in
    let long : length (read_lines (take i lines)) ≡ i = lines_long (take i lines) ∙ simp length-take (omega arith) in
    let more : read_lines (take i lines) ++ line_of line.now ∷ [] ≡ read_lines (take (i + 1) lines) = sym (ap read_lines (ap (λ n. take n lines) (add-one i) ∙ take-suc lines i line within ∙ ap (λ (m : Bor (List ℕ)). take i lines ++ m ∷ []) (sym read)) ∙ map-append (λ (m : Bor (List ℕ)). line_of m.now) (take i lines) (line ∷ [])) in
    ap (λ (ls : List (Bor (List ℕ))). words_after (read_lines lines) (read_lines (take i lines)) (read_lines ls)) rest
    ∙ ap (λ n. and_then (on_line (n + 1) (line_word (read_lines lines) (read_lines (take i lines)) (line_of line.now))) (λ word. and_then (words_after (read_lines lines) (read_lines (take i lines) ++ line_of line.now ∷ []) (read_lines (drop (i + 1) lines))) (λ words. Ok (cons_option word words)))) long
    ∙ ap (λ (xs : List Line). and_then (on_line (i + 1) (line_word (read_lines lines) (read_lines (take i lines)) (line_of line.now))) (λ word. and_then (words_after (read_lines lines) xs (read_lines (drop (i + 1) lines))) (λ words. Ok (cons_option word words)))) more

pushed_word : (words : List ℕ) (word : ℕ) (rest : Result (List ℕ) AsmFault) → read_after words (and_then rest (λ ws. Ok (word ∷ ws))) ≡ read_after (words ++ word ∷ []) rest
pushed_word words word (Ok more) = ap Ok (sym append_assoc_here)
  where
    append_assoc_here : (words ++ word ∷ []) ++ more ≡ words ++ (word ∷ more)
    append_assoc_here = simp append_assoc
pushed_word words word (Err f) = refl

pushed_none : (words : List ℕ) (rest : Result (List ℕ) AsmFault) → read_after words (and_then rest (λ ws. Ok ws)) ≡ read_after words rest
pushed_none words (Ok more) = refl
pushed_none words (Err f) = refl

step : (lines : List (Bor (List ℕ))) (labels : BTreeMap (Bor (List ℕ)) Definition) (i before : ℕ) (line : Bor (List ℕ)) (said : Result (Option ℕ) LineFault) → i < length lines → line ≡ get_or lines i line → AreLabels (read_lines lines) labels
    → before ≡ instructions (read_lines (take i lines)) → said ≡ line_by labels i before (line_of line.now)
    → reading_from lines i ≡ and_then (on_line (i + 1) said) (λ word. and_then (reading_from lines (i + 1)) (λ words. Ok (cons_option word words)))
step lines labels i before line said within read known counted is =
    first_left lines i line within read
    ∙ ap (λ (r : Result (Option ℕ) LineFault). and_then (on_line (i + 1) r) (λ word. and_then (reading_from lines (i + 1)) (λ words. Ok (cons_option word words)))) (sym (is ∙ line_is lines labels i before (line_of line.now) (omega arith) known counted))

pub step_word : (lines : List (Bor (List ℕ))) (labels : BTreeMap (Bor (List ℕ)) Definition) (i before : ℕ) (line : Bor (List ℕ)) (words : List ℕ) (word : ℕ) → i < length lines → line ≡ get_or lines i line → AreLabels (read_lines lines) labels
    → before ≡ instructions (read_lines (take i lines)) → Ok (Some word) ≡ line_by labels i before (line_of line.now)
    → read_after words (reading_from lines i) ≡ read_after (words ++ word ∷ []) (reading_from lines (i + 1))
step_word lines labels i before line words word within read known counted is = ap (read_after words) (step lines labels i before line (Ok (Some word)) within read known counted is) ∙ pushed_word words word (reading_from lines (i + 1))

pub step_none : (lines : List (Bor (List ℕ))) (labels : BTreeMap (Bor (List ℕ)) Definition) (i before : ℕ) (line : Bor (List ℕ)) (words : List ℕ) → i < length lines → line ≡ get_or lines i line → AreLabels (read_lines lines) labels
    → before ≡ instructions (read_lines (take i lines)) → Ok None ≡ line_by labels i before (line_of line.now)
    → read_after words (reading_from lines i) ≡ read_after words (reading_from lines (i + 1))
step_none lines labels i before line words within read known counted is = ap (read_after words) (step lines labels i before line (Ok None) within read known counted is) ∙ pushed_none words (reading_from lines (i + 1))

pub step_fault : (lines : List (Bor (List ℕ))) (labels : BTreeMap (Bor (List ℕ)) Definition) (i before : ℕ) (line : Bor (List ℕ)) (words : List ℕ) (fault : LineFault) → i < length lines → line ≡ get_or lines i line → AreLabels (read_lines lines) labels
    → before ≡ instructions (read_lines (take i lines)) → Err fault ≡ line_by labels i before (line_of line.now)
    → read_after words (reading_from lines i) ≡ Err (record { line = i + 1; fault = fault })
step_fault lines labels i before line words fault within read known counted is = ap (read_after words) (step lines labels i before line (Err fault) within read known counted is)

-- whether a line has an instruction, by what was said of it
pub record Told (said : Option ℕ) (before : ℕ) (code : List (List ℕ)) : Type 0 where
  pub has : nat_lt 0 (length code) ≡ is_some said
  pub few : is_some said ≡ true → before < 65536

told_code : (places : List ℕ → Option ℕ) (before : ℕ) (code : List (List ℕ)) (said : Option ℕ) → Ok said ≡ code_word places before code → Told said before code
told_code places before [] said is =
    let none : None ≡ said = cc in
    record { has = ap is_some none; few = λ some. absurd (not_some said none some) }
  where
    not_some : (o : Option ℕ) → None ≡ o → is_some o ≡ true → ⊥
    not_some None h some = cc
    not_some (Some x) h some = cc
told_code places before (name ∷ operands) said is = at (named_word places (4 * before) name operands) is
  where
    limit : (w : ℕ) (b : Bool) → nat_lt before 65536 ≡ b → ◌≡◌ {A = Result (Option ℕ) LineFault} (Ok said) (cond b (Ok (Some w)) (Err TooManyWords)) → Told said before (name ∷ operands)
    limit w true below same =
        let some : Some w ≡ said = cc in
        let more : nat_lt 0 (length (name ∷ operands)) ≡ true = grind (arith, nat_tests) in
        record { has = more ∙ ap is_some some; few = λ h. grind (arith, nat_tests) }
    limit w false below same = absurd (cc)

    at : (r : Result ℕ LineFault) → Ok said ≡ and_then r (within_limit before) → Told said before (name ∷ operands)
    at (Err f) same = absurd (cc)
    at (Ok w) same = limit w (nat_lt before 65536) refl same

told_by : (places : List ℕ → Option ℕ) (before : ℕ) (code : List (List ℕ)) (said : Option ℕ) (fault : Option LineFault) → Ok said ≡ unless fault (code_word places before code) → Told said before code
told_by places before code said None is = told_code places before code said is
told_by places before code said (Some f) is = absurd (cc)

pub told : (labels : BTreeMap (Bor (List ℕ)) Definition) (i before : ℕ) (x : Line) (said : Option ℕ) → Ok said ≡ line_by labels i before x → Told said before x.code
told labels i before x said is = told_by (place_by labels) before x.code said (fault_of_label (is_earlier labels i) x.label) is

pub few_lines : (text : List ℕ) (ls : List (Bor (List ℕ))) → texts_of ls ≡ lines_of text → length ls ≤ length text + 1
few_lines text ls same =
    let long : length (texts_of ls) ≡ length ls = simp length-map in
    let split : length (lines_of text) ≡ count_by (λ b. b == 10) text + 1 = length-slice_split (λ b. b == 10) text in
    let few : count_by (λ b. b == 10) text ≤ length text = count_by-le-length (λ b. b == 10) text in
    omega (arith, long, ap length same, split, few)

pub lines_read : (ls : List (Bor (List ℕ))) → read_lines ls ≡ map line_of (texts_of ls)
lines_read [] = refl
lines_read (l ∷ ls) = ap (λ (xs : List Line). line_of l.now ∷ xs) (lines_read ls)
