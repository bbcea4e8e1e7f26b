-- Worked jobs: what the definition gives of their bytes.
use Rattle.std.proofs.Common.{◌≡◌, ℕ, List, [], ◌∷◌, ◌++◌, Ok, Err, refl}
use Rattle.std.specs.Prelude.{codes}
use Rattle.std.specs.Str.{chars, is_utf8}
use Rattle.serde_json.proofs.OnLiterals.{serde_json_on_literals}
use Rattle.hex.proofs.OnLiterals.{hex_on_literals}
use Rattle.cv_base.specs.declared.plan.Mode.TheVariants.{Learn, Live}
use Rattle.cv_job.specs.declared.job.JobFault.TheVariants.{NotJson, NotObject, Field}
use Rattle.cv_job.specs.declared.job.JobField.TheVariants.{Workers, Rounds}
use Rattle.cv_job.specs.Json.{json_of}
use Rattle.cv_job.specs.JobOf.{job_with}
use Rattle.cv_job.specs.Reading.{reading_of}
use Rattle.cv_job.specs.Rounds.{round_with}

-- a job of two rounds, with its number of workers and its first input
abbrev text_with : List ℕ → List ℕ → List ℕ
text_with workers input =
    codes "{\"image\":\"p.bin\",\"workers\":" ++ workers ++
    codes ",\"checks\":2,\"budget\":1000,\"rounds\":[{\"mode\":\"learn\",\"inputs\":[\"" ++ input ++
    codes "\",\"2C000100\"]},{\"mode\":\"live\",\"inputs\":[\"00000000\",\"00000000\",\"00000000\",\"00000000\"]}]}"

abbrev zeros : List ℕ
zeros = 0 ∷ 0 ∷ 0 ∷ 0 ∷ []

pub open_brace : reading_of (codes "{") ≡ Err NotJson
unfolding json_of is_utf8 chars serde_json_on_literals hex_on_literals
open_brace = refl

pub empty_array : reading_of (codes "[]") ≡ Err NotObject
unfolding json_of is_utf8 chars serde_json_on_literals hex_on_literals
empty_array = refl

pub no_worker : reading_of (text_with (codes "0") (codes "24000100")) ≡ Err (Field Workers)
unfolding json_of is_utf8 chars serde_json_on_literals hex_on_literals
no_worker = refl

pub half_a_byte : reading_of (text_with (codes "1") (codes "2")) ≡ Err (Field Rounds)
unfolding json_of is_utf8 chars serde_json_on_literals hex_on_literals
half_a_byte = refl

pub two_rounds : reading_of (text_with (codes "1") (codes "24000100"))
    ≡ Ok (job_with (codes "p.bin") 1 2 1000
    (round_with Learn ((36 ∷ 0 ∷ 1 ∷ 0 ∷ []) ∷ (44 ∷ 0 ∷ 1 ∷ 0 ∷ []) ∷ []) ∷
    round_with Live (zeros ∷ zeros ∷ zeros ∷ zeros ∷ []) ∷ []))
unfolding json_of is_utf8 chars serde_json_on_literals hex_on_literals
two_rounds = refl
