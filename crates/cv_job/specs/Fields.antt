-- What a field of a JSON object gives (docs/FORMATS.md, "Job"). A look-up may find nothing.
use Rattle.std.specs.Prelude.{ℕ, Bool, ◌&&◌, nat_le, if◌then◌else◌, List, [], ◌∷◌, length, Option, Some, None, option_map, option_and_then}
use Rattle.serde_json.specs.Data.{Data, Items, no_items, item}
use Rattle.serde_json.specs.Find.{as_array, as_number, as_str, as_u64}

abbrev pub within : ℕ → ℕ → ℕ → Bool
within low high n = nat_le low n && nat_le n high

abbrev pub only_if : {A : Type 0} → (A → Bool) → Option A → Option A
only_if test None = None
only_if test (Some x) = if test x then Some x else None

-- a whole number in the range, written without a fraction or an exponent
abbrev pub number_in : ℕ → ℕ → Option Data → Option ℕ
number_in low high found = only_if (within low high) (option_and_then as_u64 (option_and_then as_number found))

-- a string whose number of bytes lies in the range
abbrev pub text_in : ℕ → ℕ → Option Data → Option (List ℕ)
text_in low high found = only_if (λ (text : List ℕ). within low high (length text)) (option_and_then as_str found)

abbrev pub listed : Items → List Data
listed no_items = []
listed (item d ds) = d ∷ listed ds

-- the elements of an array
abbrev pub elements_of : Option Data → Option (List Data)
elements_of found = option_map listed (option_and_then as_array found)

-- f of each, where f gives something of each
abbrev pub each : {A B : Type 0} → (A → Option B) → List A → Option (List B)
each f [] = Some []
each f (x ∷ xs) = option_and_then (λ y. option_map (λ ys. y ∷ ys) (each f xs)) (f x)
