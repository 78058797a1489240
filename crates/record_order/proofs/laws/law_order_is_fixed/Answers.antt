use Rattle.record_order.proofs.Placing.{turned-same}
use Rattle.record_order.proofs.laws.law_order_is_fixed.Goals as goal

pub returns : goal.returns
returns g c = λ exact records turned moved. turned-same g.T.Ranked.ranks exact records turned moved
