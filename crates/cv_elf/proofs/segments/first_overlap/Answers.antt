use Rattle.std.proofs.Common.{sym, ◌∙◌, arith}
use Rattle.cv_elf.proofs.Pairs.{overlap_here, overlap_later}
use Rattle.cv_elf.proofs.segments.first_overlap.Goals as goal

pub returns-in-Some : goal.returns-in-Some
returns-in-Some c =
    sym (overlap_here c.loop-left.left.now c.in-Some.place (omega arith) (sym c.in-Some.ensures)) ∙ c.loop-left.invariant

pub loop-left-preserved : goal.loop-left-preserved
loop-left-preserved c = sym (overlap_later c.loop-left.left.now (omega arith) (sym c.in_default-first_sharing.ensures)) ∙ c.loop-left.invariant
