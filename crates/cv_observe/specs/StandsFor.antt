-- A summary of fixed size: what is kept at each point of a text (docs/REPAIR.md, "Learning").
use Rattle.std.specs.Prelude.{◌≡◌, ℕ, ◌+◌, ◌*◌, ◌<◌, Bool, false, IsTrue, List, [], length, slice_index_or}
use Rattle.std.specs.List.{list_all}
use Rattle.cv_base.specs.declared.entries.Observation.{Observation}
use Rattle.cv_base.specs.Picture.{Picture, is_point}
use Rattle.cv_blocks.specs.TextMap.{is_in_window}
use Rattle.cv_observe.specs.AtPoint.{IsPoint, numbers_of}
use Rattle.cv_observe.specs.declared.point.Point.{Point}
use Rattle.cv_runs.specs.Learned.{seen_at}
use Rattle.cv_runs.specs.Text.{reads_at}

-- each was seen at a point of the text
abbrev pub are_at_points : Picture → List Observation → Bool
are_at_points text seen = list_all (λ (o : Observation). is_point text o.point) seen

-- a text, and what is kept at its points
pub record SummaryOf : Type 0 where
  pub text : Picture
  pub points : List Point

-- the point at a place among the words
abbrev pub point_at : Picture → ℕ → ℕ
point_at text x = text.text_base + 4 * x

-- the summary tells of these observations, in any order: at each point it keeps what is kept of
-- those that were made there
pub record StandsFor (s : SummaryOf) (seen : List Observation) : Type 0 where
  pub at_points : IsTrue (are_at_points s.text seen)
  pub each : (x : ℕ) (d : Point) → x < length s.points → IsPoint (is_in_window s.text (point_at s.text x)) (slice_index_or s.points x d) (seen_at seen (point_at s.text x))

-- one for each word: of the registers that it reads, and fresh where nothing was seen
pub record IsTable (text : Picture) (points : List Point) : Type 0 where
  pub words : length points ≡ length text.words
  pub reads : (x : ℕ) (d : Point) → x < length points → numbers_of (slice_index_or points x d).registers.items ≡ reads_at text (point_at text x)
  pub fresh : (x : ℕ) (d : Point) → x < length points → (slice_index_or points x d).seen ≡ false → IsPoint (is_in_window text (point_at text x)) (slice_index_or points x d) []
