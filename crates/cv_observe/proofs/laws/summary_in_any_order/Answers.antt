use Rattle.cv_observe.proofs.SummaryOrder.{stands_same}
use Rattle.cv_observe.proofs.laws.summary_in_any_order.Goals as goal

pub returns : goal.returns
returns c = λ s xs ys same. stands_same xs ys same s
