use Rattle.std.proofs.Common.{sym, ap, ◌∙◌}
use Rattle.cv_isa.specs.DecodeTable.{meaning_of}
use Rattle.cv_isa.proofs.Inverse.{meaning_of-placed, placed_from_meaning}
use Rattle.cv_isa.proofs.encoder.encode.Goals as goal

pub returns-clause-decodes : goal.returns-clause-decodes
returns-clause-decodes c = ap meaning_of c.word_of.ensures.placed ∙ meaning_of-placed c.args.inst.now c.word_of.ensures.known

pub returns-clause-only : goal.returns-clause-only
returns-clause-only c w small means = placed_from_meaning c.args.inst.now w small means ∙ sym c.word_of.ensures.placed
