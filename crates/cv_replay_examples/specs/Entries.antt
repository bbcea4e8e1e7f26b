-- The entry of a run among entries.
use Rattle.std.specs.Prelude.{ℕ, ◌==◌, List, Option}
use Rattle.std.specs.List.{find}
use Rattle.cv_base.specs.declared.entries.Entry.{Entry}

abbrev pub entry_for : List Entry → ℕ → Option Entry
entry_for entries run = find (λ (e : Entry). e.run == run) entries
