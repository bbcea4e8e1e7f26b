-- The operands of a listed instruction are read back.
use Rattle.std.proofs.Common.{◌≡◌, ℕ, ◌*◌, ◌/◌, ◌%◌, ◌^◌, ◌<◌, true, List, [], ◌∷◌, ◌++◌, Option, Ok, refl, sym, ap, ◌∙◌, arith}
use Rattle.std.proofs.lemmas.Bool.Decides.{nat_tests}
use Rattle.std.proofs.lemmas.List.{append-nil}
use Rattle.std.specs.Fmt.{decimal}
use Rattle.cv_isa.specs.Instruction.{Instruction, IsExtended, IsInstruction, IsOfFormat}
use Rattle.cv_isa.specs.DecodeTable.{with_fields}
use Rattle.cv_asm.specs.declared.shapes.Kind.TheVariants as kind
use Rattle.cv_asm.specs.declared.shapes.Shape.{Shape}
use Rattle.cv_asm.specs.declared.shapes.Shape.TheVariants as shape
use Rattle.cv_asm.specs.Lines.{pieces_of}
use Rattle.cv_asm.specs.Listing.{based_text, is_fence, operands_text, register_text, signed_text, three_text, two_text}
use Rattle.cv_asm.specs.Operands.{operands_in}
use Rattle.cv_asm.specs.Shapes.{instruction_with, kinds_of}
use Rattle.cv_asm.proofs.Counting.{none_read, three_ok, two_ok}
use Rattle.cv_asm.proofs.Cutting.{IsPiece, IsQuiet, piece_cut, piece_last, quiet_append, quiet_cons, quiet_piece}
use Rattle.cv_asm.proofs.ReadBack.{Ranges, decimal_piece, number_back, register_back, register_piece, signed_piece, target_back, upper_back}
use Rattle.cv_asm.proofs.ShapeFields.{format_for}

cut_three : (n a b c : List ℕ) → IsPiece n → IsPiece a → IsPiece b → IsPiece c → pieces_of (n ++ three_text a b c) ≡ n ∷ a ∷ b ∷ c ∷ []
cut_three n a b c pn pa pb pc =
    piece_cut n 32 (a ++ 44 ∷ (b ++ 44 ∷ c)) pn refl
    ∙ ap (λ ps. n ∷ ps) (piece_cut a 44 (b ++ 44 ∷ c) pa refl ∙ ap (λ ps. a ∷ ps) (piece_cut b 44 c pb refl ∙ ap (λ ps. b ∷ ps) (piece_last c pc)))

cut_two : (n a b : List ℕ) → IsPiece n → IsPiece a → IsPiece b → pieces_of (n ++ two_text a b) ≡ n ∷ a ∷ b ∷ []
cut_two n a b pn pa pb = piece_cut n 32 (a ++ 44 ∷ b) pn refl ∙ ap (λ ps. n ∷ ps) (piece_cut a 44 b pa refl ∙ ap (λ ps. a ∷ ps) (piece_last b pb))

cut_based : (n a b c : List ℕ) → IsPiece n → IsPiece a → IsPiece b → IsPiece c → pieces_of (n ++ based_text a b c) ≡ n ∷ a ∷ b ∷ c ∷ []
cut_based n a b c pn pa pb pc =
    piece_cut n 32 (a ++ 44 ∷ (b ++ 40 ∷ (c ++ 41 ∷ []))) pn refl
    ∙ ap (λ ps. n ∷ ps) (piece_cut a 44 (b ++ 40 ∷ (c ++ 41 ∷ [])) pa refl ∙ ap (λ ps. a ∷ ps) (piece_cut b 40 (c ++ 41 ∷ []) pb refl ∙ ap (λ ps. b ∷ ps) (piece_cut c 41 [] pc refl)))

cut_alone : (n : List ℕ) → IsPiece n → pieces_of (n ++ []) ≡ n ∷ []
cut_alone n pn = ap pieces_of (append-nil n) ∙ piece_last n pn

quiet_three : (a b c : List ℕ) → IsPiece a → IsPiece b → IsPiece c → IsQuiet (three_text a b c)
quiet_three a b c pa pb pc = quiet_cons 32 (a ++ 44 ∷ (b ++ 44 ∷ c)) refl (quiet_append a (44 ∷ (b ++ 44 ∷ c)) (quiet_piece a pa) (quiet_cons 44 (b ++ 44 ∷ c) refl (quiet_append b (44 ∷ c) (quiet_piece b pb) (quiet_cons 44 c refl (quiet_piece c pc)))))

quiet_two : (a b : List ℕ) → IsPiece a → IsPiece b → IsQuiet (two_text a b)
quiet_two a b pa pb = quiet_cons 32 (a ++ 44 ∷ b) refl (quiet_append a (44 ∷ b) (quiet_piece a pa) (quiet_cons 44 b refl (quiet_piece b pb)))

quiet_based : (a b c : List ℕ) → IsPiece a → IsPiece b → IsPiece c → IsQuiet (based_text a b c)
quiet_based a b c pa pb pc = quiet_cons 32 (a ++ 44 ∷ (b ++ 40 ∷ (c ++ 41 ∷ []))) refl (quiet_append a (44 ∷ (b ++ 40 ∷ (c ++ 41 ∷ []))) (quiet_piece a pa) (quiet_cons 44 (b ++ 40 ∷ (c ++ 41 ∷ [])) refl (quiet_append b (40 ∷ (c ++ 41 ∷ [])) (quiet_piece b pb) (quiet_cons 40 (c ++ 41 ∷ []) refl (quiet_append c (41 ∷ []) (quiet_piece c pc) (record { each = refl }))))))

-- the operands of a shape, as they are listed, give the instruction again
pub record ReadsAs (sh : Shape) (i : Instruction) : Type 0 where
  pub operands : List (List ℕ)
  pub values : List ℕ
  pub quiet : IsQuiet (operands_text sh i)
  pub cut : (name : List ℕ) → IsPiece name → pieces_of (name ++ operands_text sh i) ≡ name ∷ operands
  pub read : (places : List ℕ → Option ℕ) (place : ℕ) → operands_in places place (kinds_of sh) operands ≡ Ok values
  pub again : instruction_with sh i.op values ≡ i

ranges_12 : (n : ℕ) → n < 2 ^ 32 → IsExtended 12 n → Ranges 2048 2047 n
ranges_12 n small extended = record { small = small; few = omega arith; below = omega arith; positive = λ h. grind (arith, nat_tests); negative = λ h. grind (arith, nat_tests) }

ranges_13 : (n : ℕ) → n < 2 ^ 32 → IsExtended 13 n → n % 2 ≡ 0 → Ranges 4096 4094 n
ranges_13 n small extended even = record { small = small; few = omega arith; below = omega arith; positive = λ h. grind (arith, nat_tests); negative = λ h. grind (arith, nat_tests) }

ranges_21 : (n : ℕ) → n < 2 ^ 32 → IsExtended 21 n → n % 2 ≡ 0 → Ranges 1048576 1048574 n
ranges_21 n small extended even = record { small = small; few = omega arith; below = omega arith; positive = λ h. grind (arith, nat_tests); negative = λ h. grind (arith, nat_tests) }

ranges_shift : (n : ℕ) → n < 32 → Ranges 0 31 n
ranges_shift n small = record { small = omega arith; few = omega arith; below = omega arith; positive = λ h. omega arith; negative = λ h. absurd (omega arith) }

pub reads_as : (sh : Shape) (i : Instruction) → IsInstruction i → IsOfFormat (format_for sh) i → (is_fence sh ≡ true → with_fields i.op 0 0 0 255 ≡ i) → ReadsAs sh i
reads_as shape.Registers i known fits fence =
    let pa = register_piece i.rd known.rd_in_range in
    let pb = register_piece i.rs1 known.rs1_in_range in
    let pc = register_piece i.rs2 known.rs2_in_range in
    record {
      operands = register_text i.rd ∷ register_text i.rs1 ∷ register_text i.rs2 ∷ [];
      values = i.rd ∷ i.rs1 ∷ i.rs2 ∷ [];
      quiet = quiet_three (register_text i.rd) (register_text i.rs1) (register_text i.rs2) pa pb pc;
      cut = λ name pn. cut_three name (register_text i.rd) (register_text i.rs1) (register_text i.rs2) pn pa pb pc;
      read = λ places place. three_ok places place kind.Register kind.Register kind.Register (register_text i.rd) (register_text i.rs1) (register_text i.rs2) i.rd i.rs1 i.rs2 (sym (register_back places place 1 i.rd known.rd_in_range)) (sym (register_back places place 2 i.rs1 known.rs1_in_range)) (sym (register_back places place 3 i.rs2 known.rs2_in_range));
      again = ap (λ n. with_fields i.op i.rd i.rs1 i.rs2 n) (sym fits);
    }
reads_as shape.WithNumber i known fits fence =
    let pa = register_piece i.rd known.rd_in_range in
    let pb = register_piece i.rs1 known.rs1_in_range in
    let pc = signed_piece i.imm known.imm_in_range in
    record {
      operands = register_text i.rd ∷ register_text i.rs1 ∷ signed_text i.imm ∷ [];
      values = i.rd ∷ i.rs1 ∷ i.imm ∷ [];
      quiet = quiet_three (register_text i.rd) (register_text i.rs1) (signed_text i.imm) pa pb pc;
      cut = λ name pn. cut_three name (register_text i.rd) (register_text i.rs1) (signed_text i.imm) pn pa pb pc;
      read = λ places place. three_ok places place kind.Register kind.Register (kind.Number 2048 2047) (register_text i.rd) (register_text i.rs1) (signed_text i.imm) i.rd i.rs1 i.imm (sym (register_back places place 1 i.rd known.rd_in_range)) (sym (register_back places place 2 i.rs1 known.rs1_in_range)) (sym (number_back places place 3 2048 2047 i.imm (ranges_12 i.imm known.imm_in_range fits.1)));
      again = ap (λ n. with_fields i.op i.rd i.rs1 n i.imm) (sym fits.0);
    }
reads_as shape.ByAmount i known fits fence =
    let pa = register_piece i.rd known.rd_in_range in
    let pb = register_piece i.rs1 known.rs1_in_range in
    let pc = signed_piece i.imm known.imm_in_range in
    record {
      operands = register_text i.rd ∷ register_text i.rs1 ∷ signed_text i.imm ∷ [];
      values = i.rd ∷ i.rs1 ∷ i.imm ∷ [];
      quiet = quiet_three (register_text i.rd) (register_text i.rs1) (signed_text i.imm) pa pb pc;
      cut = λ name pn. cut_three name (register_text i.rd) (register_text i.rs1) (signed_text i.imm) pn pa pb pc;
      read = λ places place. three_ok places place kind.Register kind.Register (kind.Number 0 31) (register_text i.rd) (register_text i.rs1) (signed_text i.imm) i.rd i.rs1 i.imm (sym (register_back places place 1 i.rd known.rd_in_range)) (sym (register_back places place 2 i.rs1 known.rs1_in_range)) (sym (number_back places place 3 0 31 i.imm (ranges_shift i.imm fits.1)));
      again = ap (λ n. with_fields i.op i.rd i.rs1 n i.imm) (sym fits.0);
    }
reads_as shape.FromAddress i known fits fence =
    let pa = register_piece i.rd known.rd_in_range in
    let pb = signed_piece i.imm known.imm_in_range in
    let pc = register_piece i.rs1 known.rs1_in_range in
    record {
      operands = register_text i.rd ∷ signed_text i.imm ∷ register_text i.rs1 ∷ [];
      values = i.rd ∷ i.imm ∷ i.rs1 ∷ [];
      quiet = quiet_based (register_text i.rd) (signed_text i.imm) (register_text i.rs1) pa pb pc;
      cut = λ name pn. cut_based name (register_text i.rd) (signed_text i.imm) (register_text i.rs1) pn pa pb pc;
      read = λ places place. three_ok places place kind.Register (kind.Number 2048 2047) kind.Register (register_text i.rd) (signed_text i.imm) (register_text i.rs1) i.rd i.imm i.rs1 (sym (register_back places place 1 i.rd known.rd_in_range)) (sym (number_back places place 2 2048 2047 i.imm (ranges_12 i.imm known.imm_in_range fits.1))) (sym (register_back places place 3 i.rs1 known.rs1_in_range));
      again = ap (λ n. with_fields i.op i.rd i.rs1 n i.imm) (sym fits.0);
    }
reads_as shape.ToAddress i known fits fence =
    let pa = register_piece i.rs2 known.rs2_in_range in
    let pb = signed_piece i.imm known.imm_in_range in
    let pc = register_piece i.rs1 known.rs1_in_range in
    record {
      operands = register_text i.rs2 ∷ signed_text i.imm ∷ register_text i.rs1 ∷ [];
      values = i.rs2 ∷ i.imm ∷ i.rs1 ∷ [];
      quiet = quiet_based (register_text i.rs2) (signed_text i.imm) (register_text i.rs1) pa pb pc;
      cut = λ name pn. cut_based name (register_text i.rs2) (signed_text i.imm) (register_text i.rs1) pn pa pb pc;
      read = λ places place. three_ok places place kind.Register (kind.Number 2048 2047) kind.Register (register_text i.rs2) (signed_text i.imm) (register_text i.rs1) i.rs2 i.imm i.rs1 (sym (register_back places place 1 i.rs2 known.rs2_in_range)) (sym (number_back places place 2 2048 2047 i.imm (ranges_12 i.imm known.imm_in_range fits.1))) (sym (register_back places place 3 i.rs1 known.rs1_in_range));
      again = ap (λ n. with_fields i.op n i.rs1 i.rs2 i.imm) (sym fits.0);
    }
reads_as shape.Branch i known fits fence =
    let pa = register_piece i.rs1 known.rs1_in_range in
    let pb = register_piece i.rs2 known.rs2_in_range in
    let pc = signed_piece i.imm known.imm_in_range in
    record {
      operands = register_text i.rs1 ∷ register_text i.rs2 ∷ signed_text i.imm ∷ [];
      values = i.rs1 ∷ i.rs2 ∷ i.imm ∷ [];
      quiet = quiet_three (register_text i.rs1) (register_text i.rs2) (signed_text i.imm) pa pb pc;
      cut = λ name pn. cut_three name (register_text i.rs1) (register_text i.rs2) (signed_text i.imm) pn pa pb pc;
      read = λ places place. three_ok places place kind.Register kind.Register (kind.Target 4096 4094) (register_text i.rs1) (register_text i.rs2) (signed_text i.imm) i.rs1 i.rs2 i.imm (sym (register_back places place 1 i.rs1 known.rs1_in_range)) (sym (register_back places place 2 i.rs2 known.rs2_in_range)) (sym (target_back places place 3 4096 4094 i.imm (ranges_13 i.imm known.imm_in_range fits.1 fits.2) fits.2));
      again = ap (λ n. with_fields i.op n i.rs1 i.rs2 i.imm) (sym fits.0);
    }
reads_as shape.UpperBits i known fits fence =
    let pa = register_piece i.rd known.rd_in_range in
    let small : i.imm / 2 ^ 12 < 2 ^ 20 = omega (arith, known.imm_in_range) in
    let pb = decimal_piece (i.imm / 2 ^ 12) (omega arith) in
    let whole : i.imm / 2 ^ 12 * 2 ^ 12 ≡ i.imm = omega (arith, fits.2) in
    record {
      operands = register_text i.rd ∷ decimal (i.imm / 2 ^ 12) ∷ [];
      values = i.rd ∷ i.imm / 2 ^ 12 ∷ [];
      quiet = quiet_two (register_text i.rd) (decimal (i.imm / 2 ^ 12)) pa pb;
      cut = λ name pn. cut_two name (register_text i.rd) (decimal (i.imm / 2 ^ 12)) pn pa pb;
      read = λ places place. two_ok places place kind.Register (kind.Number 0 1048575) (register_text i.rd) (decimal (i.imm / 2 ^ 12)) i.rd (i.imm / 2 ^ 12) (sym (register_back places place 1 i.rd known.rd_in_range)) (sym (upper_back places place 2 (i.imm / 2 ^ 12) small));
      again = ap (λ n. with_fields i.op i.rd n 0 (i.imm / 2 ^ 12 * 2 ^ 12)) (sym fits.0) ∙ ap (λ n. with_fields i.op i.rd i.rs1 n (i.imm / 2 ^ 12 * 2 ^ 12)) (sym fits.1) ∙ ap (λ n. with_fields i.op i.rd i.rs1 i.rs2 n) whole;
    }
reads_as shape.Jump i known fits fence =
    let pa = register_piece i.rd known.rd_in_range in
    let pb = signed_piece i.imm known.imm_in_range in
    record {
      operands = register_text i.rd ∷ signed_text i.imm ∷ [];
      values = i.rd ∷ i.imm ∷ [];
      quiet = quiet_two (register_text i.rd) (signed_text i.imm) pa pb;
      cut = λ name pn. cut_two name (register_text i.rd) (signed_text i.imm) pn pa pb;
      read = λ places place. two_ok places place kind.Register (kind.Target 1048576 1048574) (register_text i.rd) (signed_text i.imm) i.rd i.imm (sym (register_back places place 1 i.rd known.rd_in_range)) (sym (target_back places place 2 1048576 1048574 i.imm (ranges_21 i.imm known.imm_in_range fits.2 fits.3) fits.3));
      again = ap (λ n. with_fields i.op i.rd n 0 i.imm) (sym fits.0) ∙ ap (λ n. with_fields i.op i.rd i.rs1 n i.imm) (sym fits.1);
    }
reads_as shape.Fence i known fits fence =
    record { operands = []; values = []; quiet = record { each = refl }; cut = λ name pn. cut_alone name pn; read = λ places place. none_read places place; again = fence refl }
reads_as shape.Alone i known fits fence =
    record {
      operands = [];
      values = [];
      quiet = record { each = refl };
      cut = λ name pn. cut_alone name pn;
      read = λ places place. none_read places place;
      again = ap (λ n. with_fields i.op n 0 0 0) (sym fits.0) ∙ ap (λ n. with_fields i.op i.rd n 0 0) (sym fits.1) ∙ ap (λ n. with_fields i.op i.rd i.rs1 n 0) (sym fits.2) ∙ ap (λ n. with_fields i.op i.rd i.rs1 i.rs2 n) (sym fits.3);
    }
