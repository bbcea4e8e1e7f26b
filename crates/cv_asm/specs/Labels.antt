-- What private functions promise of lines as they are cut and of the map of labels: the clauses of
-- public calls speak of `source_of` alone.
use Rattle.std.specs.Prelude.{◌≡◌, ℕ, ◌*◌, Bool, false, nat_lt, List, take, map, Option, Some, None, position}
use Rattle.std.specs.Option.{option_map, option_map_or}
use Rattle.std.specs.Ordering.{nat_cmp}
use Rattle.std.specs.Cmp.Lexicographic.{slice_cmp}
use Rattle.std.specs.BTreeMap.{BTreeMap, get_by}
use Rattle.std.specs.Borrow.{Bor}
use Rattle.cv_asm.specs.declared.labels.Definition.{Definition}
use Rattle.cv_asm.specs.Results.{only_where}
use Rattle.cv_asm.specs.Lines.{Line, defines, instructions, line_of}

-- lines as they are read from their bytes
abbrev pub read_lines : List (Bor (List ℕ)) → List Line
read_lines lines = map (λ (l : Bor (List ℕ)). line_of l.now) lines

-- the pieces' bytes
abbrev pub texts_of : List (Bor (List ℕ)) → List (List ℕ)
texts_of pieces = map (λ (p : Bor (List ℕ)). p.now) pieces

-- where a line of this number, counted from 0, defines a label for the first time
abbrev pub definition_at : List Line → ℕ → Definition
definition_at lines i = record { line = i; place = 4 * instructions (take i lines) }

abbrev pub definition_in : List Line → List ℕ → Option Definition
definition_in lines label = option_map (definition_at lines) (position (defines label) lines)

-- what the map has at a label
abbrev pub found_in : BTreeMap (Bor (List ℕ)) Definition → List ℕ → Option Definition
found_in labels label = get_by (λ k. slice_cmp nat_cmp label k.now) labels

-- what was found, or else the definition, where this is the label that it defines
abbrev pub found_or : Option Definition → Bool → Definition → Option Definition
found_or (Some d) is_this new = Some d
found_or None is_this new = only_where is_this new

-- the map has the first definition of each label
abbrev pub AreLabels : List Line → BTreeMap (Bor (List ℕ)) Definition → Type 0
AreLabels lines labels = (label : List ℕ) → found_in labels label ≡ definition_in lines label

-- the place of a label by the map
abbrev pub place_by : BTreeMap (Bor (List ℕ)) Definition → List ℕ → Option ℕ
place_by labels label = option_map (λ (d : Definition). d.place) (found_in labels label)

-- a line before line i defines the label, by the map
abbrev pub is_earlier : BTreeMap (Bor (List ℕ)) Definition → ℕ → List ℕ → Bool
is_earlier labels i label = option_map_or (λ (d : Definition). nat_lt d.line i) (found_in labels label) false
