use Rattle.std.proofs.Common.{◌≡◌, ℕ, ◌+◌, ◌-◌, ◌≤◌, List, ◌∷◌, length, take, drop, refl, sym, ap, ◌∙◌, arith, length-drop}
use Rattle.std.proofs.lemmas.List.{take_all}
use Rattle.cv_keep.specs.Pieces.{pieces}
use Rattle.cv_keep.proofs.Pieces.{begins, pieces_some}
use Rattle.cv_keep.proofs.reading.split_first.Goals as goal

pub slice_bounds-result-count : goal.slice_bounds-result-count
slice_bounds-result-count c = (begins _ _ (sym c.in_ok-piece.ensures)).within

pub slice_bounds-result-start : goal.slice_bounds-result-start
slice_bounds-result-start c = let b = begins _ _ (sym c.in_ok-piece.ensures) in let within = b.within in omega arith

-- what is behind is the rest
rest_is : (image : List ℕ) (n : ℕ) → take (length image - n) (drop n image) ≡ drop n image
rest_is image n = take_all (length image - n) (drop n image) (omega (arith, length-drop n image))

pub returns-clause-some : goal.returns-clause-some
returns-clause-some c =
    let image = c.args.image.now in
    let p = c.in_ok-piece.piece.now in
    pieces_some image p (sym c.in_ok-piece.ensures) ∙ ap (λ (l : List ℕ). p ∷ pieces l) (sym (rest_is image (5 + length p)))

behind_long : (image p : List ℕ) (n : ℕ) → n ≡ 5 + length p → n ≤ length image → length p + 5 + length (take (length image - n) (drop n image)) ≡ length image
behind_long image p n is within = omega (arith, ap length (rest_is image n), length-drop n image)

pub returns-clause-behind : goal.returns-clause-behind
returns-clause-behind c =
    let image = c.args.image.now in
    let p = c.in_ok-piece.piece.now in
    behind_long image p (5 + length p) refl (begins image p (sym c.in_ok-piece.ensures)).within
