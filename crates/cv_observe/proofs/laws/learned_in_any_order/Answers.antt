use Rattle.cv_observe.proofs.AnyOrder.{learned_same}
use Rattle.cv_observe.proofs.laws.learned_in_any_order.Goals as goal

pub returns : goal.returns
returns c = λ image xs ys words same. learned_same xs ys same image words
