use Rattle.std.proofs.Common.{sym, arith}
use Rattle.cv_asm.specs.Labels.{place_by}
use Rattle.cv_asm.proofs.Counting.{data_count}
use Rattle.cv_asm.proofs.encoder.data_word.Goals as goal

pub returns-in_default : goal.returns-in_default
returns-in_default c = sym (data_count (place_by c.args.labels.now) c.args.place c.args.operands.now (λ same. absurd (omega arith)))

pub returns-in_default-2 : goal.returns-in_default-2
returns-in_default-2 c = sym (data_count (place_by c.args.labels.now) c.args.place c.args.operands.now (λ same. absurd (omega arith)))
