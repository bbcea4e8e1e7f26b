use Rattle.std.proofs.Common.{◌≡◌, take}
use Rattle.std.specs.List.{flat_map}
use Rattle.cv_mem.specs.Memory.{spelled}
use Rattle.cv_gen.proofs.program.spelled.Given as goal

abbrev pub invariant-loop-word : goal.invariant-loop-word
invariant-loop-word l = l.bytes.items ≡ flat_map (spelled 4) (take l.word-index l.words)
