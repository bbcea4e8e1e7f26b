-- The nearest numbers of a list below and above a limit.
use Rattle.std.specs.Prelude.{◌≡◌, ℕ, Bool, true, ◌&&◌, ◌||◌, ◌==◌, ◌<◌, ◌≤◌, nat_lt, List}
use Rattle.std.specs.List.{list_any}

-- whether a number is in a list
abbrev pub holds_number : ℕ → List ℕ → Bool
holds_number n xs = list_any (λ x. x == n) xs

-- the greatest number of the list that is at most the limit, or 0 where none is
pub record IsGreatestUpTo (xs : List ℕ) (limit n : ℕ) : Type 0 where
  pub among : (holds_number n xs || (n == 0)) ≡ true
  pub below : n ≤ limit
  pub greatest : (x : ℕ) → holds_number x xs ≡ true → x ≤ limit → x ≤ n

-- the least number of the list that is above the limit, or `end` where none is below `end`
pub record IsLeastAbove (xs : List ℕ) (limit end n : ℕ) : Type 0 where
  pub among : ((nat_lt limit n && holds_number n xs) || (n == end)) ≡ true
  pub below : n ≤ end
  pub least : (x : ℕ) → holds_number x xs ≡ true → limit < x → n ≤ x
