-- A point is the address of a word of the text (docs/MACHINE.md, "Points").
use Rattle.std.specs.Prelude.{◌≡◌, ℕ, Bool, ◌&&◌, ◌==◌, ◌+◌, ◌-◌, ◌*◌, ◌/◌, ◌%◌, ◌^◌, ◌≤◌, nat_le, nat_lt}

-- the words of a text: how many, and where the first lies
pub record Range : Type 0 where
  pub base : ℕ
  pub count : ℕ

pub record IsRange (r : Range) : Type 0 where
  pub aligned : r.base % 4 ≡ 0
  pub inside : r.base + 4 * r.count ≤ 2 ^ 32

-- whether an address is that of one of `count` words from `base` on
abbrev pub is_point_in : ℕ → ℕ → ℕ → Bool
is_point_in base count a = nat_le base a && ((a - base) % 4 == 0) && nat_lt ((a - base) / 4) count
