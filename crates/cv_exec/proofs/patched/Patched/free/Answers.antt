use Rattle.std.proofs.Common.{subst, arith}
use Rattle.cv_exec.proofs.Passing.{ends_less, ends_room}
use Rattle.cv_patch.specs.Indexing.{AreFree}
use Rattle.cv_runs.specs.PatchedRun.{Table}
use Rattle.cv_exec.proofs.patched.Patched.free.Goals as goal

pub returns-clause-free : goal.returns-clause-free
returns-clause-free c = subst (λ (table : Table). AreFree table c.free_words.result c.args.pc) c.requires.index c.free_words.ensures.free

pub returns-clause-ends : goal.returns-clause-ends
returns-clause-ends c = ends_less _ c.free_words.result c.room-room.result (omega (arith, c.free_words.ensures.most, c.min-most.ensures)) (ends_room _ _ c.room-room.ensures.some)
