-- What the field `rounds` gives (docs/FORMATS.md, "Job"). A look-up in what is no object finds nothing.
use Rattle.std.specs.Prelude.{ℕ, nat_le, bytes_eq, codes, if◌then◌else◌, List, length, Option, Some, None, option_map, option_and_then}
use Rattle.std.specs.Result.{result_ok}
use Rattle.serde_json.specs.Data.{Data}
use Rattle.serde_json.specs.Find.{as_str, get}
use Rattle.hex.specs.Hex.{decode_of}
use Rattle.cv_base.specs.declared.plan.Mode.{Mode}
use Rattle.cv_base.specs.declared.plan.Mode.TheVariants.{Learn, Live}
use Rattle.cv_base.specs.declared.plan.Round.{Round}
use Rattle.cv_job.specs.Fields.{each, elements_of, only_if, within}

abbrev pub mode_named : List ℕ → Option Mode
mode_named name = if bytes_eq name (codes "learn") then Some Learn else if bytes_eq name (codes "live") then Some Live else None

abbrev pub mode_of : Option Data → Option Mode
mode_of found = option_and_then mode_named (option_and_then as_str found)

-- a string of hexadecimal digits, for at most 65,536 bytes
abbrev pub input_of : Data → Option (List ℕ)
input_of d =
    only_if (λ (input : List ℕ). nat_le (length input) 65536) (option_and_then (λ (digits : List ℕ). result_ok (decode_of digits)) (as_str d))

-- an array of inputs that is not empty
abbrev pub inputs_of : Option Data → Option (List (List ℕ))
inputs_of found = option_and_then (each input_of) (only_if (λ (ds : List Data). nat_le 1 (length ds)) (elements_of found))

abbrev pub round_with : Mode → List (List ℕ) → Round
round_with mode inputs = record { mode = mode; inputs = inputs }

abbrev pub round_of : Data → Option Round
round_of d =
    option_and_then (λ (mode : Mode). option_map (round_with mode) (inputs_of (get (codes "inputs") d))) (mode_of (get (codes "mode") d))

-- an array of 1 to 64 rounds
abbrev pub rounds_of : Option Data → Option (List Round)
rounds_of found = option_and_then (each round_of) (only_if (λ (ds : List Data). within 1 64 (length ds)) (elements_of found))
