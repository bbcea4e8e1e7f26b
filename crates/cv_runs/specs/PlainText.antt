-- What `plain` writes of a run (docs/FORMATS.md, "Texts of the commands").
use Rattle.std.specs.Prelude.{ℕ, ◌/◌, ◌%◌, List, [], ◌∷◌, ◌++◌, length, codes}
use Rattle.std.specs.Fmt.{decimal, digit_glyph}
use Rattle.std.specs.List.{flat_map}
use Rattle.std.specs.Prelude.{false}
use Rattle.cv_base.specs.EndText.{end_text}
use Rattle.cv_base.specs.Picture.{Picture}
use Rattle.cv_runs.specs.PlainRun.{plain_run, end_of, state_left}
use Rattle.cv_runs.specs.State.{start_state}

-- bytes as lower-case hexadecimal digits, two for each, or `-` where there is none
abbrev pub hex_text : List ℕ → List ℕ
hex_text bytes = flat_map (λ b. digit_glyph false (b / 16) ∷ digit_glyph false (b % 16) ∷ []) bytes

abbrev pub bytes_text : List ℕ → List ℕ
bytes_text [] = codes "-"
bytes_text (b ∷ bs) = hex_text (b ∷ bs)

abbrev pub plain_text : Picture → List ℕ → ℕ → List ℕ
plain_text image input budget =
    let run = plain_run image input budget in
    codes "end " ++ end_text (end_of run) ++ codes "\nturns " ++ decimal (length run)
    ++ codes "\noutput " ++ bytes_text (state_left (start_state image input) run).output ++ codes "\n"
