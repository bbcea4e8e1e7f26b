-- How far a loop over elements has come: those that are done, before what the rest give.
use Rattle.std.proofs.Common.{List, ◌++◌, Option, Some, None}

abbrev pub prepended : {A : Type 0} → List A → Option (List A) → Option (List A)
prepended done None = None
prepended done (Some rest) = Some (done ++ rest)
