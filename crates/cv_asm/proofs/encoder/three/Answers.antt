use Rattle.std.proofs.Common.{arith}
use Rattle.cv_asm.specs.Labels.{place_by}
use Rattle.cv_asm.specs.Shapes.{kinds_of}
use Rattle.cv_asm.proofs.Counting.{other_of}
use Rattle.cv_asm.proofs.encoder.three.Goals as goal

pub returns-in_default-clause-err : goal.returns-in_default-clause-err
returns-in_default-clause-err c = other_of (place_by c.args.labels.now) c.args.place (kinds_of c.args.shape) c.args.operands.now (λ same. absurd (omega arith))

pub returns-in_default-2-clause-err : goal.returns-in_default-2-clause-err
returns-in_default-2-clause-err c = other_of (place_by c.args.labels.now) c.args.place (kinds_of c.args.shape) c.args.operands.now (λ same. absurd (omega arith))
