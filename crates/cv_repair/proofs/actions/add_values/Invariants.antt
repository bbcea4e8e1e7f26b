use Rattle.std.proofs.Common.{◌≡◌, ◌++◌, map, take}
use Rattle.cv_base.specs.declared.patches.Action.TheVariants.{SetConst}
use Rattle.cv_repair.specs.Numbered.{repairs_by}
use Rattle.cv_repair.proofs.actions.add_values.Given as goal

abbrev pub invariant-loop-value : goal.invariant-loop-value
invariant-loop-value l = l.list.items ≡ l.initial.list.items ++ repairs_by l.candidate (map (SetConst l.reg) (take l.value-index l.values))
