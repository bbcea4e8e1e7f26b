use Rattle.std.proofs.lemmas.Result.{IfOk-equal}
use Rattle.cv_repair.proofs.Numbers.{all_added}
use Rattle.cv_repair.proofs.actions.add_repairs.Goals as goal

pub returns : goal.returns
returns c =
    IfOk-equal c.add_return.result _ _ _ c.add_return.ensures
    (all_added c.args.map.now c.args.candidates.now c.args.number c.index-candidates-number.result c.requires.within c.index-candidates-number.is c.args.list.now.items _ _ _ _ c.point_of.ensures c.inst.ensures c.in_ok-add_sets.ensures c.in_ok-add_skip.ensures)
