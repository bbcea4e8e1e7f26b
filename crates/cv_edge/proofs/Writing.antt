use Rattle.std.proofs.Common.{ℕ, ◌+◌, ◌≤◌, List, ◌++◌, take, drop, length, Option, Some, None, sym, ap, ◌∙◌, arith, append_assoc, length-drop}
use Rattle.std.proofs.Math.Seq.{take-add}
use Rattle.std.proofs.lemmas.List.{take-take, length-take}
use Rattle.cv_edge.specs.Edge.{Appends}

-- a piece is no longer than what is left, nor than it was asked to be
pub piece_within : (text : List ℕ) (done count n : ℕ) → n ≤ length (take count (drop done text)) → n ≤ count
piece_within text done count n taken = let e = length-take count (drop done text) in grind arith

-- what was written lies within the text
pub taken_within : (text : List ℕ) (done count n : ℕ) → done ≤ length text → n ≤ length (take count (drop done text)) → done + n ≤ length text
taken_within text done count n within taken =
    let e = length-take count (drop done text) in let f = length-drop done text in grind arith

-- the first `done` bytes and then n bytes of the next piece are the first `done + n`
pub appends_more : (old mid new : Option (List ℕ)) (text : List ℕ) (done count n : ℕ) → n ≤ length (take count (drop done text)) → Appends old mid (take done text) → Appends mid new (take n (take count (drop done text))) → Appends old new (take (done + n) text)
appends_more None None None text done count n taken a b = tt
appends_more (Some old) (Some mid) (Some new) text done count n taken a b =
    b ∙ ap (λ x. x ++ take n (take count (drop done text))) a ∙ append_assoc old (take done text) _
    ∙ ap (λ x. old ++ (take done text ++ x)) (take-take n count (drop done text) (piece_within text done count n taken))
    ∙ ap (λ x. old ++ x) (sym (take-add done n text))
appends_more None (Some mid) new text done count n taken a b = absurd a
appends_more (Some old) None new text done count n taken a b = absurd a
appends_more None None (Some new) text done count n taken a b = absurd b
appends_more (Some old) (Some mid) None text done count n taken a b = absurd b
