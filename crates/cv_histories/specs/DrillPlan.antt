-- The plan that `drill` makes of a number (docs/FORMATS.md, "The generator of drill").
use Rattle.std.specs.Prelude.{ℕ, suc, zero, ◌==◌, ◌+◌, ◌*◌, ◌/◌, ◌%◌, ◌^◌, true, false, if◌then◌else◌, List, [], ◌∷◌, length}
use Rattle.std.specs.List.{flat_map}
use Rattle.cv_base.specs.declared.plan.Mode.TheVariants.{Learn, Live}
use Rattle.cv_base.specs.Picture.{Picture}
use Rattle.cv_base.specs.PlanOf.{PlanOf}
use Rattle.cv_mem.specs.Memory.{spelled}

-- the program that reads an address and calls it
abbrev pub calling_program : List ℕ
calling_program =
    0x00000513 ∷ 0xff010593 ∷ 0x00400613 ∷ 0x03f00893 ∷ 0x00000073 ∷ 0xff012303 ∷ 0x000300e7 ∷ 0x05d00893 ∷ 0x00000073 ∷
    0x00700513 ∷ 0x00008067 ∷ 0x00900513 ∷ 0x00008067 ∷ []

-- the flat image of some words
abbrev pub flat_image : List ℕ → Picture
flat_image words = record {
  text_base = 0x10000;
  words = words;
  entry = 0x10000;
  segments = record {
    region = record { start = 0x10000; end = 0x10000 + 4 * length words; read = true; write = false; code = true };
    bytes = flat_map (spelled 4) words;
  } ∷ [];
}

-- the linear congruential generator, and the input that its top two bits choose
abbrev pub next_number : ℕ → ℕ
next_number s = (s * 6364136223846793005 + 1442695040888963407) % 2 ^ 64

abbrev pub first_input : List ℕ
first_input = 0x24 ∷ 0 ∷ 1 ∷ 0 ∷ []

abbrev pub second_input : List ℕ
second_input = 0x2c ∷ 0 ∷ 1 ∷ 0 ∷ []

abbrev pub chosen_input : ℕ → List ℕ
chosen_input top =
    if top == 0 then first_input
    else if top == 1 then second_input
    else if top == 2 then 0 ∷ 0 ∷ 0 ∷ 0 ∷ []
    else 2 ∷ 0 ∷ 1 ∷ 0 ∷ []

abbrev pub live_inputs : ℕ → ℕ → List (List ℕ)
live_inputs zero s = []
live_inputs (suc count) s = chosen_input (next_number s / 2 ^ 62) ∷ live_inputs count (next_number s)

abbrev pub drill_plan : ℕ → ℕ → PlanOf
drill_plan number count = record {
  image = flat_image calling_program;
  workers = 1;
  checks = 2;
  budget = 1000;
  rounds = record { mode = Learn; inputs = first_input ∷ second_input ∷ [] } ∷ record { mode = Live; inputs = live_inputs count number } ∷ [];
}
