use Rattle.std.proofs.Common.{ℕ, ◌+◌, ◌-◌, ◌≤◌, ◌≡◌, List, ◌++◌, min, take, length, sym, ap, ◌∙◌, arith}
use Rattle.std.proofs.Math.Seq.{take-append-add}
use Rattle.std.proofs.lemmas.List.{length-take, length-take-le, take_min}
use Rattle.std.proofs.lemmas.Slice.{take-put_mid}
use borrow.Rule.Slice.PartMut.{put_mid}

-- what goes past the end is dropped
pub take-past : (xs ys : List ℕ) (n : ℕ) → length xs ≤ n → take n (xs ++ ys) ≡ xs ++ take (n - length xs) ys
take-past xs ys n within =
    let e : n ≡ length xs + (n - length xs) = omega arith in
    ap (λ m. take m (xs ++ ys)) e ∙ take-append-add xs ys (n - length xs)

-- a piece that is put behind the first bytes of a buffer, as far as it reaches
pub filled_by : (xs ys zs : List ℕ) (at n k : ℕ) → at ≤ length xs → n ≡ min (length ys) (length xs - at) → zs ≡ take n ys → take (at + n) (put_mid at k xs zs) ≡ take (length xs) (take at xs ++ ys)
filled_by xs ys zs at n k within count part =
    let front = length-take-le at xs within in
    let long = length-take n ys in
    let size : at + n ≡ at + length zs = rw part (omega (arith, count, long)) in
    let least : n ≡ min (length xs - at) (length ys) = omega (arith, count) in
    let same : zs ≡ take (length xs - at) ys = part ∙ ap (λ m. take m ys) least ∙ take_min (length xs - at) ys in
    let rest : length xs - length (take at xs) ≡ length xs - at = ap (λ m. length xs - m) front in
    let fits : length (take at xs) ≤ length xs = omega (arith, front, within) in
    take-put_mid at k xs zs (at + n) size within
    ∙ ap (λ w. take at xs ++ w) (same ∙ sym (ap (λ m. take m ys) rest))
    ∙ sym (take-past (take at xs) ys (length xs) fits)
