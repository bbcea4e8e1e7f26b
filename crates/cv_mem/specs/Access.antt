-- Which addresses an access may touch, said once for reads and writes.
use Rattle.std.specs.Prelude.{◌≡◌, ℕ, Bool, true, ◌||◌, ◌&&◌, ◌+◌, ◌<◌, ◌≤◌, nat_lt, max, min, List}
use Rattle.std.specs.List.{list_any}
use Rattle.cv_base.specs.declared.image.Region.{Region}
use Rattle.cv_base.specs.Regions.{is_heap_or_stack, is_in_region}
use Rattle.cv_mem.specs.declared.regions.Access.{Access}
use Rattle.cv_mem.specs.declared.regions.Access.TheVariants.{Read, Write}

-- whether a region permits the access
abbrev pub permits : Access → Region → Bool
permits Read = λ r. r.read
permits Write = λ r. r.write

-- `is_readable` and `is_writable`
abbrev pub is_open : Access → List Region → ℕ → Bool
is_open access regions a = is_heap_or_stack a || is_in_region (permits access) regions a

-- the addresses from `a` up to `end` are open
pub record OpensUpTo (access : Access) (regions : List Region) (a end : ℕ) : Type 0 where
  pub later : a < end
  pub each : (k : ℕ) → a ≤ k → k < end → is_open access regions k ≡ true

-- whether the region has one of the `count` addresses from `a` on
abbrev pub meets : ℕ → ℕ → Region → Bool
meets a count r = nat_lt (max r.start a) (min r.end (a + count))

-- whether a region with `code` has one of the `count` addresses from `a` on
abbrev pub code_meets : List Region → ℕ → ℕ → Bool
code_meets regions a count = list_any (λ (r : Region). r.code && meets a count r) regions
