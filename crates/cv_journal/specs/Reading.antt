-- Numbers, addresses, bytes, pairs and lists, read from their texts (docs/FORMATS.md, "Text forms").
-- `lines_read_exactly` says that a line read in this way is exactly the line of an entry.
use Rattle.std.specs.Prelude.{ℕ, ◌+◌, ◌-◌, ◌*◌, ◌^◌, Bool, true, false, not, ◌&&◌, ◌==◌, if◌then◌else◌, nat_lt, List, [], ◌∷◌, length, take, drop, codes, Option, Some, None, option_map, option_and_then, find, bytes_eq}
use Rattle.std.specs.Int.{is_in_range}
use Rattle.std.specs.List.{slice_split}
use Rattle.std.specs.Str.{all_ascii_digits}
use Rattle.std.specs.Str.Parse.{digits_value}

abbrev pub only_where : {A : Type 0} → Bool → Option A → Option A
only_where true o = o
only_where false o = None

abbrev pub both : {A B : Type 0} → Option A → Option B → Option (A × B)
both (Some a) (Some b) = Some (a, b)
both (Some a) None = None
both None o = None

-- ---- cutting

-- what stands before the first mark, and what behind it
unfoldable pub cut : ℕ → List ℕ → Option (List ℕ × List ℕ)
cut mark [] = None
cut mark (b ∷ bs) = if b == mark then Some ([], bs) else option_map (λ (p : List ℕ × List ℕ). (b ∷ p.0, p.1)) (cut mark bs)

-- the texts between the marks
unfoldable pub pieces : ℕ → List ℕ → List (List ℕ)
pieces mark s = slice_split (λ b. b == mark) s

-- what stands behind a word at the beginning
unfoldable pub behind : List ℕ → List ℕ → Option (List ℕ)
behind word s = only_where (bytes_eq (take (length word) s) word) (Some (drop (length word) s))

-- one text before the first mark, and another behind it
abbrev pub pair_in : {A B : Type 0} → ℕ → (List ℕ → Option A) → (List ℕ → Option B) → List ℕ → Option (A × B)
pair_in mark first second s = option_and_then (λ (p : List ℕ × List ℕ). both (first p.0) (second p.1)) (cut mark s)

-- ---- numbers

-- not empty, and no zero before other digits
abbrev pub is_well_led : List ℕ → Bool
is_well_led [] = false
is_well_led (c ∷ []) = true
is_well_led (c ∷ d ∷ rest) = not (c == 48)

-- a decimal number in 32 bits
unfoldable pub number_in : List ℕ → Option ℕ
number_in s = only_where (is_well_led s && (all_ascii_digits s && nat_lt (digits_value 10 s) (2 ^ 32))) (Some (digits_value 10 s))

-- the value of a hexadecimal digit whose letters begin at a byte, 65 for upper case and 97 for lower
abbrev pub hex_digit : ℕ → ℕ → Option ℕ
hex_digit letter c =
    if is_in_range 48 57 c then Some (c - 48) else only_where (is_in_range letter (letter + 5) c) (Some (c + 10 - letter))

-- the number that upper-case digits write behind the digits of n
abbrev pub hex_behind : ℕ → List ℕ → Option ℕ
hex_behind n [] = Some n
hex_behind n (c ∷ cs) = option_and_then (λ d. hex_behind (16 * n + d) cs) (hex_digit 65 c)

-- an address or a register's value: eight upper-case digits
unfoldable pub address_in : List ℕ → Option ℕ
address_in s = only_where (length s == 8) (hex_behind 0 s)

-- ---- bytes and lists

-- a byte for each two lower-case digits
abbrev pub byte_pairs : List ℕ → Option (List ℕ)
byte_pairs [] = Some []
byte_pairs (a ∷ []) = None
byte_pairs (a ∷ b ∷ rest) =
    option_map (λ (p : (ℕ × ℕ) × List ℕ). (16 * p.0.0 + p.0.1) ∷ p.1) (both (both (hex_digit 97 a) (hex_digit 97 b)) (byte_pairs rest))

abbrev pub some_pairs : List ℕ → Option (List ℕ)
some_pairs [] = None
some_pairs (c ∷ cs) = byte_pairs (c ∷ cs)

-- bytes, or `-` for none
unfoldable pub bytes_in : List ℕ → Option (List ℕ)
bytes_in s = if bytes_eq s (codes "-") then Some [] else some_pairs s

abbrev pub each : {A : Type 0} → (List ℕ → Option A) → List (List ℕ) → Option (List A)
each read [] = Some []
each {A} read (p ∷ ps) = option_map (λ (q : A × List A). q.0 ∷ q.1) (both (read p) (each read ps))

-- a list joined by commas, or `-` for an empty one
abbrev pub list_in : {A : Type 0} → (List ℕ → Option A) → List ℕ → Option (List A)
list_in read s = if bytes_eq s (codes "-") then Some [] else each read (pieces 44 s)

-- the thing of a list that has this name
abbrev pub named_in : {A : Type 0} → (A → List ℕ) → List A → List ℕ → Option A
named_in name things s = find (λ k. bytes_eq s (name k)) things
