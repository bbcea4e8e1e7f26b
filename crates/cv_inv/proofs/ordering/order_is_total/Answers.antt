use Rattle.std.proofs.lemmas.Cmp.{on_total, nat_list_cmp_total}
use Rattle.cv_runs.specs.Invariants.{key}
use Rattle.cv_inv.proofs.ordering.order_is_total.Goals as goal

pub returns : goal.returns
returns c = on_total key nat_list_cmp_total
