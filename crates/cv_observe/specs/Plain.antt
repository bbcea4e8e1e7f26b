-- A summary that keeps a list of all observations.
use Rattle.std.specs.Prelude.{List}
use Rattle.cv_base.specs.declared.entries.Observation.{Observation}
use Rattle.cv_base.specs.Picture.{Picture}

pub record PlainOf : Type 0 where
  pub text : Picture
  pub seen : List Observation
