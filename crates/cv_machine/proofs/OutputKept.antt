-- Output up to a most.
use Rattle.std.proofs.Common.{◌≡◌, ℕ, ◌+◌, ◌-◌, ◌≤◌, List, ◌++◌, length, take, sym, ap, ◌∙◌, arith}
use Rattle.std.specs.Prelude.{min}
use Rattle.std.proofs.Math.Seq.{take-append-add}
use Rattle.std.proofs.lemmas.List.{take_min}

pub kept : (most : ℕ) (old more : List ℕ) → length old ≤ most → old ++ take (min (most - length old) (length more)) more ≡ take most (old ++ more)
kept most old more h =
    let whole : length old + (most - length old) ≡ most = omega arith in
    ap (λ l. old ++ l) (take_min (most - length old) more)
    ∙ sym (take-append-add old more (most - length old))
    ∙ ap (λ n. take n (old ++ more)) whole
