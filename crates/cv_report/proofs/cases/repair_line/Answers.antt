use Rattle.std.proofs.Common.{◌∙◌, rules}
use Rattle.std.proofs.lemmas.Int.{to_z-of_z}
use mir.Syntax.{w64}
use mir.Val.{SFits}
use Rattle.cv_report.proofs.Parts.{repair_joined}
use Rattle.cv_report.specs.Pieces.{repair_text}
use Rattle.cv_report.proofs.cases.repair_line.Goals as goal

pub returns : goal.returns
returns c =
    let fits : SFits w64 c.score-score.result = search rules in
    c.in_ok-format.ensures.ok
    ∙ repair_joined _ _ _ _ _ _ _ _ _ (repair_text c.args.index c.args.number c.args.repair) c.in_ok-name.ensures c.wins-wins.ensures
    (c.fails-fails.ensures c.args.case.now c.requires.case) (to_z-of_z w64 c.score-score.result fits ∙ c.score-score.ensures c.args.case.now c.requires.case) c.in_ok-scored.ensures
