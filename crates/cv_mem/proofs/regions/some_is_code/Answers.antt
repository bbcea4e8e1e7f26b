use Rattle.std.proofs.Common.{◌≡◌, ◌∙◌, true, false, arith}
use Rattle.std.proofs.lemmas.Grind.{common_steps}
use Rattle.cv_mem.specs.Access.{code_meets}
use Rattle.cv_mem.proofs.CodeRegions.{some_code}
use Rattle.cv_mem.proofs.regions.some_is_code.Goals as goal

pub returns-then-has_some_of : goal.returns-then-has_some_of
returns-then-has_some_of c =
    let whole : true ≡ code_meets c.args.regions.now c.args.addr c.args.len = grind (arith, common_steps) in
    whole ∙ some_code c.args.regions.now c.args.addr c.args.len

pub returns : goal.returns
returns c =
    let whole : false ≡ code_meets c.args.regions.now c.args.addr c.args.len = grind (arith, common_steps) in
    whole ∙ some_code c.args.regions.now c.args.addr c.args.len
