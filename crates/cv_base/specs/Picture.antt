-- What an image holds, and its points (docs/MACHINE.md, "Points").
use Rattle.std.specs.Prelude.{ℕ, Bool, ◌-◌, ◌/◌, List, length, slice_index}
use Rattle.cv_base.specs.declared.image.Segment.{Segment}
use Rattle.cv_base.specs.Points.{is_point_in}

pub record Picture : Type 0 where
  pub text_base : ℕ
  pub words : List ℕ
  pub segments : List Segment
  pub entry : ℕ

-- whether an address is that of a word of the text
abbrev pub is_point : Picture → ℕ → Bool
is_point image a = is_point_in image.text_base (length image.words) a

-- the word at a point
abbrev pub word_at : Picture → ℕ → ℕ
word_at image a = slice_index image.words ((a - image.text_base) / 4)
