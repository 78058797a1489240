use Rattle.dns_queries.proofs.Orders.{in-order-along}
use Rattle.dns_queries.proofs.asker_laws.law_asking_stays_in_order.Goals as goal

pub returns : goal.returns
returns c = in-order-along
