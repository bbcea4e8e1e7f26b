-- Encoding and decoding undo each other, and a word fits one row at most.
use Rattle.std.proofs.Common.{◌≡◌, ℕ, ◌%◌, ◌^◌, ◌<◌, Bool, true, false, cond, Option, Some, None, List, [], ◌∷◌, refl, sym, ap, ◌∙◌, arith, rules}
use Rattle.std.specs.List.{All, AllByRecursion, Contains, find}
use Rattle.std.specs.Option.{option_map}
use Rattle.std.proofs.lemmas.Bool.Decides.{nat_tests}
use Rattle.std.proofs.lemmas.List.Elements.{All-contains, All-from_recursion, recursion_from_All}
use Rattle.cv_isa.specs.declared.operation.Op.{Op}
use Rattle.cv_isa.specs.declared.operation.Op.TheVariants as op
use Rattle.cv_isa.specs.declared.operation.Format.{Format}
use Rattle.cv_isa.specs.declared.operation.Format.TheVariants.{Register}
use Rattle.cv_isa.specs.Bits.{bits}
use Rattle.cv_isa.specs.Instruction.{Instruction, IsInstruction, format_of}
use Rattle.cv_isa.specs.DecodeTable.{Row, row, rows, fits, instruction_at, meaning_of, row_of}
use Rattle.cv_isa.specs.ByFields.{agrees, operation_at}
use Rattle.cv_isa.specs.Encoding.{code_of, placed, IsCode}
use Rattle.cv_isa.proofs.Rows.{mask_of, IsRow, all_rows, fits_is, first_at, meaning_from, meaning_of-by_fields}
use Rattle.cv_isa.proofs.Placing.{agrees_at, replaced, InRange, HasCode, funct3_in, funct7_in, word_in, has_code, placed_small, operation_placed, kept}

code_shape : (o : Op) → IsCode (format_of o) (code_of o)
code_shape op.Lui = search rules
code_shape _ = search rules

-- the word of an instruction means it
pub meaning_of-placed : (i : Instruction) → IsInstruction i → meaning_of (placed (format_of i.op) (code_of i.op) i) ≡ Some i
meaning_of-placed i known =
    let f = format_of i.op in
    let code = code_of i.op in
    let shape = code_shape i.op in
    let within : InRange i = record { rd = known.rd_in_range; rs1 = known.rs1_in_range; rs2 = known.rs2_in_range; imm = known.imm_in_range } in
    meaning_of-by_fields (placed f code i) (placed_small f code i shape within)
    ∙ ap (meaning_from (placed f code i)) (operation_placed i.op (placed f code i) (has_code f code i shape within known.of_format))
    ∙ ap Some (kept f code i shape within known.of_format)

op_at : (f : Format) (o : Op) (w : ℕ) → (instruction_at f o w).op ≡ o
op_at Register o w = refl
op_at _ o w = refl

-- a row is the one of its operation
row_is : (r : Row) → IsRow r → r ≡ row r.op (format_of r.op) (mask_of (format_of r.op)) (code_of r.op)
row_is r known =
    ap (λ (f : Format). row r.op f r.mask r.code) known.format
    ∙ ap (λ (m : ℕ). row r.op (format_of r.op) m r.code) known.mask
    ∙ ap (λ (k : ℕ). row r.op (format_of r.op) (mask_of (format_of r.op)) k) known.code

-- the word agrees with the row of its operation
agrees_as_row : (w : ℕ) (r : Row) → IsRow r → agrees (bits w 0 7) (bits w 12 3) (bits w 25 7) w r ≡ true → agrees_at (format_of r.op) (code_of r.op) w r.op ≡ true
agrees_as_row w r known passes = sym (ap (agrees (bits w 0 7) (bits w 12 3) (bits w 25 7) w) (row_is r known)) ∙ passes

-- a word that agrees with a row is the word of the instruction that the row gives it
placed_again : (w : ℕ) → w < 2 ^ 32 → (i : Instruction) (r : Row) → IsRow r → agrees (bits w 0 7) (bits w 12 3) (bits w 25 7) w r ≡ true → instruction_at (format_of r.op) r.op w ≡ i → w ≡ placed (format_of i.op) (code_of i.op) i
placed_again w small i r known passes same =
    let again : placed (format_of r.op) (code_of r.op) (instruction_at (format_of r.op) r.op w) ≡ w = replaced (format_of r.op) (code_of r.op) w r.op known.shape small (agrees_as_row w r known passes) in
    let operation : r.op ≡ i.op = sym (op_at (format_of r.op) r.op w) ∙ ap (λ (j : Instruction). j.op) same in
    sym again
    ∙ ap (λ (o : Op). placed (format_of o) (code_of o) (instruction_at (format_of r.op) r.op w)) operation
    ∙ ap (λ (j : Instruction). placed (format_of i.op) (code_of i.op) j) same

at_row : (w : ℕ) → w < 2 ^ 32 → (i : Instruction) (r : Row) → IsRow r → (passes : Bool) → agrees (bits w 0 7) (bits w 12 3) (bits w 25 7) w r ≡ passes → (later : Option Op) → (meaning_from w later ≡ Some i → w ≡ placed (format_of i.op) (code_of i.op) i) → meaning_from w (cond passes (Some r.op) later) ≡ Some i → w ≡ placed (format_of i.op) (code_of i.op) i
at_row w small i r known true passes later rest means =
    let same : instruction_at (format_of r.op) r.op w ≡ i = cc in
    placed_again w small i r known passes same
at_row w small i r known false passes later rest means = rest means

among : (w : ℕ) → w < 2 ^ 32 → (i : Instruction) (rs : List Row) → AllByRecursion IsRow rs → meaning_from w (first_at w rs) ≡ Some i → w ≡ placed (format_of i.op) (code_of i.op) i
among w small i [] known means = absurd (cc)
among w small i (r ∷ rs) known means = at_row w small i r known.0 (agrees (bits w 0 7) (bits w 12 3) (bits w 25 7) w r) refl (first_at w rs) (among w small i rs known.1) means

-- only one word means an instruction
pub placed_from_meaning : (i : Instruction) (w : ℕ) → w < 2 ^ 32 → meaning_of w ≡ Some i → w ≡ placed (format_of i.op) (code_of i.op) i
placed_from_meaning i w small means = among w small i rows all_rows (sym (meaning_of-by_fields w small) ∙ means)

-- ---- one row at most

opcode_told : (f : Format) (code w : ℕ) (o : Op) → IsCode f code → agrees_at f code w o ≡ true → bits w 0 7 ≡ code % 2 ^ 7
opcode_told Register code w o shape passes = grind (arith, nat_tests)
opcode_told _ code w o shape passes = grind (arith, nat_tests)

funct3_told : (f : Format) (code w : ℕ) (o : Op) → IsCode f code → agrees_at f code w o ≡ true → bits w 12 3 ≡ funct3_in f code (bits w 12 3)
funct3_told Register code w o shape passes = grind (arith, nat_tests)
funct3_told _ code w o shape passes = grind (arith, nat_tests)

funct7_told : (f : Format) (code w : ℕ) (o : Op) → IsCode f code → agrees_at f code w o ≡ true → bits w 25 7 ≡ funct7_in f code (bits w 25 7)
funct7_told Register code w o shape passes = grind (arith, nat_tests)
funct7_told _ code w o shape passes = grind (arith, nat_tests)

whole_told : (f : Format) (code w : ℕ) (o : Op) → IsCode f code → agrees_at f code w o ≡ true → w ≡ word_in f code w
whole_told Register code w o shape passes = grind (arith, nat_tests)
whole_told _ code w o shape passes = grind (arith, nat_tests)

told : (w : ℕ) (r : Row) → IsRow r → agrees (bits w 0 7) (bits w 12 3) (bits w 25 7) w r ≡ true → operation_at (bits w 0 7) (bits w 12 3) (bits w 25 7) w ≡ Some r.op
told w r known passes =
    let f = format_of r.op in
    let code = code_of r.op in
    let as_row : agrees_at f code w r.op ≡ true = agrees_as_row w r known passes in
    let has : HasCode f code w = record { opcode = opcode_told f code w r.op known.shape as_row; funct3 = funct3_told f code w r.op known.shape as_row; funct7 = funct7_told f code w r.op known.shape as_row; whole = whole_told f code w r.op known.shape as_row } in
    operation_placed r.op w has

told_by_fit : (w : ℕ) → w < 2 ^ 32 → (r : Row) → Contains rows r → fits w r ≡ true → operation_at (bits w 0 7) (bits w 12 3) (bits w 25 7) w ≡ Some r.op
told_by_fit w small r inside fit =
    let known : IsRow r = All-contains IsRow rows r (All-from_recursion IsRow rows all_rows) inside in
    told w r known (sym (fits_is w small r known.plain) ∙ fit)

row_of_op : (r : Row) → Contains rows r → r ≡ row r.op (format_of r.op) (mask_of (format_of r.op)) (code_of r.op)
row_of_op r inside = row_is r (All-contains IsRow rows r (All-from_recursion IsRow rows all_rows) inside)

pub same_row : (w : ℕ) → w < 2 ^ 32 → (r s : Row) → Contains rows r → Contains rows s → fits w r ≡ true → fits w s ≡ true → r ≡ s
same_row w small r s inside_r inside_s fit_r fit_s =
    let one : Some r.op ≡ Some s.op = sym (told_by_fit w small r inside_r fit_r) ∙ told_by_fit w small s inside_s fit_s in
    let same : r.op ≡ s.op = cc one in
    row_of_op r inside_r
    ∙ ap (λ (o : Op). row o (format_of o) (mask_of (format_of o)) (code_of o)) same
    ∙ sym (row_of_op s inside_s)

-- ---- no row

all_refuse_at : (w : ℕ) (r : Row) (rs : List Row) (fit : Bool) → fits w r ≡ fit → (find (fits w) rs ≡ None → AllByRecursion (λ s. fits w s ≡ false) rs) → cond fit (Some r) (find (fits w) rs) ≡ None → AllByRecursion (λ s. fits w s ≡ false) (r ∷ rs)
all_refuse_at w r rs true is later none = absurd (cc)
all_refuse_at w r rs false is later none = (is, later none)

all_refuse : (w : ℕ) (rs : List Row) → find (fits w) rs ≡ None → AllByRecursion (λ s. fits w s ≡ false) rs
all_refuse w [] none = tt
all_refuse w (r ∷ rs) none = all_refuse_at w r rs (fits w r) refl (all_refuse w rs) none

none_found : (w : ℕ) (rs : List Row) → AllByRecursion (λ s. fits w s ≡ false) rs → find (fits w) rs ≡ None
none_found w [] refused = refl
none_found w (r ∷ rs) refused = ap (λ (b : Bool). cond b (Some r) (find (fits w) rs)) refused.0 ∙ none_found w rs refused.1

none_mapped : {A B : Type 0} (f : A → B) (o : Option A) → option_map f o ≡ None → o ≡ None
none_mapped f None h = refl
none_mapped f (Some x) h = absurd (cc)

pub no_row : (w : ℕ) → meaning_of w ≡ None → All (λ s. fits w s ≡ false) rows
unfolding row_of
no_row w none = All-from_recursion (λ s. fits w s ≡ false) rows (all_refuse w rows (none_mapped (λ (r : Row). instruction_at r.format r.op w) (row_of w) none))

pub no_meaning : (w : ℕ) → All (λ s. fits w s ≡ false) rows → meaning_of w ≡ None
unfolding row_of
no_meaning w refused = ap (option_map (λ (r : Row). instruction_at r.format r.op w)) (none_found w rows (recursion_from_All (λ s. fits w s ≡ false) rows refused))
