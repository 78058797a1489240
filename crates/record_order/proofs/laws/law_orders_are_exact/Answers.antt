use Rattle.record_order.proofs.Exact.{octets_exact, rule_exact, server_exact}
use Rattle.record_order.proofs.laws.law_orders_are_exact.Goals as goal

pub returns-clause-addresses : goal.returns-clause-addresses
returns-clause-addresses c = octets_exact

pub returns-clause-servers : goal.returns-clause-servers
returns-clause-servers c = server_exact c.law_octets_determine_name.ensures

pub returns-clause-rules : goal.returns-clause-rules
returns-clause-rules c = rule_exact c.law_octets_determine_name.ensures
