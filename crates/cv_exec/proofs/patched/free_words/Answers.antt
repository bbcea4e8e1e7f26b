use Rattle.std.proofs.Common.{arith}
use Rattle.cv_exec.proofs.Passing.{less_free, none_free}
use Rattle.cv_exec.proofs.patched.free_words.Goals as goal

pub returns-in-None-clause-free : goal.returns-in-None-clause-free
returns-in-None-clause-free c = rw c.in-None.is (none_free c.args.most c.args.pc)

pub returns-in-Some-clause-free : goal.returns-in-Some-clause-free
returns-in-Some-clause-free c =
    rw c.in-Some.is (less_free c.in-Some.table c.min.result c.free_from.result c.args.pc (omega (arith, c.min.ensures)) c.free_from.ensures)
