use Rattle.std.proofs.Common.{◌≡◌, ℕ, ◌+◌, ◌≤◌, List, [], ◌∷◌, ◌++◌, length, refl, ap, ◌∙◌, arith, length-append}
use Rattle.std.specs.Int.{to_le_bytes, w32}
use Rattle.cv_edge.specs.Disk.{written}
use Rattle.cv_keep.proofs.Moments.{write_front, fronts_then}
use Rattle.cv_keep.proofs.Images.{written_more}
use Rattle.cv_keep.proofs.framing.write_frame.Goals as goal

pub returns-in_err-write_at-clause-images : goal.returns-in_err-write_at-clause-images
returns-in_err-write_at-clause-images g c front behind was =
    write_front g.D.Disk.means g.met.D.Disk.only_now c.args.disk.now c.write_at.new.self c.args.at _ front behind c.write_at.ensures.time c.write_at.ensures.torn was

pub returns-in_err-write_at-2-clause-images : goal.returns-in_err-write_at-2-clause-images
returns-in_err-write_at-2-clause-images g c front behind was =
    let M = g.D.Disk.means in
    let law = g.met.D.Disk.only_now in
    let later : length front ≤ c.args.at + 4 = omega (arith, behind) in
    let one = write_front M law c.args.disk.now c.write_at.new.self c.args.at _ front behind c.write_at.ensures.time c.write_at.ensures.torn was in
    let two = write_front M law c.write_at.new.self c.write_at-2.new.self (c.args.at + 4) _ front later c.write_at-2.ensures.time c.write_at-2.ensures.torn one.now in
    fronts_then M c.args.disk.now c.write_at.new.self c.write_at-2.new.self front one two

pub returns-in_err-write_at-3-clause-images : goal.returns-in_err-write_at-3-clause-images
returns-in_err-write_at-3-clause-images g c front behind was =
    let M = g.D.Disk.means in
    let law = g.met.D.Disk.only_now in
    let n = length c.args.piece.now in
    let later : length front ≤ c.args.at + 4 = omega (arith, behind) in
    let last : length front ≤ c.args.at + 4 + n = omega (arith, behind) in
    let one = write_front M law c.args.disk.now c.write_at.new.self c.args.at _ front behind c.write_at.ensures.time c.write_at.ensures.torn was in
    let two = write_front M law c.write_at.new.self c.write_at-2.new.self (c.args.at + 4) _ front later c.write_at-2.ensures.time c.write_at-2.ensures.torn one.now in
    let three = write_front M law c.write_at-2.new.self c.write_at-3.new.self (c.args.at + 4 + n) _ front last c.write_at-3.ensures.time c.write_at-3.ensures.torn two.now in
    fronts_then M c.args.disk.now c.write_at-2.new.self c.write_at-3.new.self front (fronts_then M c.args.disk.now c.write_at.new.self c.write_at-2.new.self front one two) three

pub returns-clause-images : goal.returns-clause-images
returns-clause-images g c front behind was =
    let M = g.D.Disk.means in
    let law = g.met.D.Disk.only_now in
    let n = length c.args.piece.now in
    let later : length front ≤ c.args.at + 4 = omega (arith, behind) in
    let last : length front ≤ c.args.at + 4 + n = omega (arith, behind) in
    let one = write_front M law c.args.disk.now c.write_at.new.self c.args.at _ front behind c.write_at.ensures.time c.write_at.ensures.torn was in
    let two = write_front M law c.write_at.new.self c.write_at-2.new.self (c.args.at + 4) _ front later c.write_at-2.ensures.time c.write_at-2.ensures.torn one.now in
    let three = write_front M law c.write_at-2.new.self c.write_at-3.new.self (c.args.at + 4 + n) _ front last c.write_at-3.ensures.time c.write_at-3.ensures.torn two.now in
    fronts_then M c.args.disk.now c.write_at-2.new.self c.write_at-3.new.self front (fronts_then M c.args.disk.now c.write_at.new.self c.write_at-2.new.self front one two) three

-- the length, the piece and the byte 0, one behind the other
frame_content : (at n : ℕ) (size p d c1 c2 c3 : List ℕ) → at ≤ length d → length size ≡ 4 → n ≡ length p
    → c1 ≡ written at size d → c2 ≡ written (at + 4) p c1 → c3 ≡ written (at + 4 + n) (0 ∷ []) c2 → c3 ≡ written at (size ++ p ++ 0 ∷ []) d
frame_content at n size p d c1 c2 c3 within four is first second third =
    let two : c2 ≡ written at (size ++ p) d =
    second ∙ ap (λ (l : List ℕ). written (at + 4) p l) first ∙ written_more at (at + 4) size p d within (omega arith) in
    third ∙ ap (λ (l : List ℕ). written (at + 4 + n) (0 ∷ []) l) two
    ∙ written_more at (at + 4 + n) (size ++ p) (0 ∷ []) d within (omega (arith, length-append size p))

pub returns-clause-content : goal.returns-clause-content
returns-clause-content g c tells =
    let M = g.D.Disk.means in
    let p = c.args.piece.now in
    let d = M.content c.args.disk.now in
    let size = to_le_bytes w32 (length p) in
    let first : M.content c.write_at.new.self ≡ written c.args.at size d =
    c.in_ok-write_at.ensures.content tells ∙ ap (λ (l : List ℕ). written c.args.at l d) c.to_le_bytes-size.ensures in
    frame_content c.args.at (length p) size p d (M.content c.write_at.new.self) (M.content c.write_at-2.new.self) (M.content c.write_at-3.new.self)
    (c.requires.place tells) refl refl first (c.in_ok-write_at-2.ensures.content tells) (c.in_ok-write_at-3.ensures.content tells)
