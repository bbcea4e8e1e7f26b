-- Which addresses can be read and written (docs/MACHINE.md, "Regions").
use Rattle.std.specs.Prelude.{ℕ, suc, zero, Bool, true, false, ◌&&◌, ◌||◌, ◌+◌, nat_le, nat_lt, List, map}
use Rattle.std.specs.List.{list_any}
use Rattle.cv_base.specs.declared.TheConstants.{HEAP_START, STACK_START, STACK_END}
use Rattle.cv_base.specs.declared.image.Region.{Region}
use Rattle.cv_base.specs.declared.image.Segment.{Segment}
use Rattle.cv_base.specs.Picture.{Picture}

-- the regions of an image's segments
abbrev pub regions_of : Picture → List Region
regions_of image = map (λ (s : Segment). s.region) image.segments

abbrev pub is_within : ℕ → ℕ → ℕ → Bool
is_within start end a = nat_le start a && nat_lt a end

abbrev pub is_heap : ℕ → Bool
is_heap a = is_within HEAP_START STACK_START a

-- the heap and the stack, which can be read and written throughout
abbrev pub is_heap_or_stack : ℕ → Bool
is_heap_or_stack a = is_within HEAP_START STACK_END a

-- whether the address lies in a region that passes the test
abbrev pub is_in_region : (Region → Bool) → List Region → ℕ → Bool
is_in_region test regions a = list_any (λ (r : Region). test r && is_within r.start r.end a) regions

abbrev pub is_readable : List Region → ℕ → Bool
is_readable regions a = is_heap_or_stack a || is_in_region (λ r. r.read) regions a

abbrev pub is_writable : List Region → ℕ → Bool
is_writable regions a = is_heap_or_stack a || is_in_region (λ r. r.write) regions a

abbrev pub is_code : List Region → ℕ → Bool
is_code regions a = is_in_region (λ r. r.code) regions a

-- whether each, or some, of the `count` addresses from `a` on passes a test
abbrev pub each_address : (ℕ → Bool) → ℕ → ℕ → Bool
each_address test a zero = true
each_address test a (suc count) = elim (test a) [ true ↦ each_address test (a + 1) count | false ↦ false ]

abbrev pub some_address : (ℕ → Bool) → ℕ → ℕ → Bool
some_address test a zero = false
some_address test a (suc count) = elim (test a) [ true ↦ true | false ↦ some_address test (a + 1) count ]
