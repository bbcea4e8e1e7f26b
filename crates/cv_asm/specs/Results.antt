-- Readings that may be refused, one after another.
use Rattle.std.specs.Prelude.{Bool, Option, Some, None, Result, Ok, Err, if◌then◌else◌}

-- the second reading, of what the first one gave; the first one's fault where it has one
abbrev pub and_then : {A B E : Type 0} → Result A E → (A → Result B E) → Result B E
and_then (Ok x) next = next x
and_then (Err e) next = Err e

-- the reading, unless there is a fault already
abbrev pub unless : {A E : Type 0} → Option E → Result A E → Result A E
unless None reading = reading
unless (Some e) reading = Err e

-- the value where the test passes
abbrev pub only_where : {A : Type 0} → Bool → A → Option A
only_where test x = if test then Some x else None
