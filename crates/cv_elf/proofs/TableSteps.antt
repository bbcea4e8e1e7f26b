-- One step along the program headers that are left from a place on.
use Rattle.std.proofs.Common.{◌≡◌, ◌<◌, ◌-◌, ◌+◌, ℕ, suc, ◌||◌, ◌++◌, cond, true, false, [], ◌∷◌, List, length, map, refl, append_assoc, length-append, ◌∙◌, arith}
use Rattle.std.specs.List.{filter, list_any, range_with_len}
use Rattle.cv_elf.specs.declared.header.ProgramHeader.{ProgramHeader}
use Rattle.cv_elf.specs.Headers.{header_at, is_loadable, is_dynamic}

pub dynamic_step : (bytes : List ℕ) (place count : ℕ) → place < count →
    list_any is_dynamic (map (header_at bytes) (range_with_len place (count - place)))
    ≡ (is_dynamic (header_at bytes place) || list_any is_dynamic (map (header_at bytes) (range_with_len (place + 1) (count - (place + 1)))))
dynamic_step bytes place count within =
    let e : count - place ≡ suc (count - (place + 1)) = omega arith in
    rw e refl

-- the loadable segments among the headers from a place on
abbrev pub left : List ℕ → ℕ → ℕ → List ProgramHeader
left bytes place count = filter is_loadable (map (header_at bytes) (range_with_len place (count - place)))

loadable_step : (bytes : List ℕ) (place count : ℕ) → place < count →
    left bytes place count ≡ cond (is_loadable (header_at bytes place)) (header_at bytes place ∷ left bytes (place + 1) count) (left bytes (place + 1) count)
loadable_step bytes place count within =
    let e : count - place ≡ suc (count - (place + 1)) = omega arith in
    rw e refl

pub loadable_kept : (bytes : List ℕ) (place count : ℕ) → place < count → is_loadable (header_at bytes place) ≡ true →
    left bytes place count ≡ header_at bytes place ∷ left bytes (place + 1) count
loadable_kept bytes place count within is = rw is at (loadable_step bytes place count within)

pub loadable_passed : (bytes : List ℕ) (place count : ℕ) → place < count → is_loadable (header_at bytes place) ≡ false →
    left bytes place count ≡ left bytes (place + 1) count
loadable_passed bytes place count within is = rw is at (loadable_step bytes place count within)

pub more_than_64 : (hs rest all : List ProgramHeader) (h : ProgramHeader) → hs ++ (h ∷ rest) ≡ all → length hs ≡ 64 → 64 < length all
more_than_64 hs rest all h e full = rw (← e) (omega (arith, length-append hs (h ∷ rest)))

pub moved_over : (hs new rest all : List ProgramHeader) (h : ProgramHeader) → hs ++ (h ∷ rest) ≡ all → new ≡ hs ++ h ∷ [] → new ++ rest ≡ all
moved_over hs new rest all h e pushed = rw pushed (append_assoc hs (h ∷ []) rest ∙ e)
