-- How the code keeps sizes: from 2^33 on they are all out of every range, and are kept as that.
-- What private functions promise; the clauses of public calls speak of no cap.
use Rattle.std.specs.Prelude.{ℕ, ◌+◌, ◌*◌, ◌^◌, List, [], ◌∷◌, Option, Some, None, min, if◌then◌else◌}
use Rattle.std.specs.Char.{digit_value, is_digit}
use Rattle.cv_asm.specs.declared.numbers.Number.{Number}

abbrev pub capped : ℕ → ℕ
capped n = min n (2 ^ 33)

abbrev pub capped_number : Number → Number
capped_number n = record { negative = n.negative; size = capped n.size }

-- the value of digits after those of n, kept below the cap at each of them
abbrev pub sized : ℕ → ℕ → List ℕ → Option ℕ
sized base n [] = Some n
sized base n (c ∷ cs) = if is_digit c base then sized base (capped (n * base + digit_value c)) cs else None
