use Rattle.std.proofs.Common.{◌≡◌, ℕ, List, [], ◌∷◌, ◌++◌, ap, ◌∙◌, arith}
use Rattle.cv_keep.specs.Pieces.{pieces, end_of}
use Rattle.cv_keep.proofs.Pieces.{found_more, end_of_push}
use Rattle.cv_keep.proofs.reading.pieces_in.Goals as goal

pub loop-piece-preserved : goal.loop-piece-preserved
loop-piece-preserved c =
    let found = c.loop-piece.found.items in
    let p = c.in-Some.piece.now in
    let behind = c.in-Some.behind.now in
    let pushed : c.push.new.self.items ≡ found ++ p ∷ [] = c.in_ok-push.ensures.items ∙ ap (λ (x : List ℕ). found ++ x ∷ []) c.in_ok-from_slice.ensures in
    record {
      told =
          ap (λ (l : List (List ℕ)). l ++ pieces behind) pushed
          ∙ found_more found p (pieces c.loop-piece.rest.now) (pieces behind) (pieces c.args.image.now) c.loop-piece.invariant.told c.in-Some.ensures.some;
      place = omega (arith, ap end_of pushed, end_of_push found p, c.loop-piece.invariant.place, c.in-Some.ensures.behind);
    }
