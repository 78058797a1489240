use Rattle.std.proofs.Common.{sym, ◌∙◌}
use Rattle.sip_response.specs.Routes.{connection, datagram}
use Rattle.sip_response.proofs.route.response_route.Goals as goal

pub returns-then-is_reliable : goal.returns-then-is_reliable
returns-then-is_reliable c =
    connection (sym c.is_reliable.ensures ∙ c.if-is_reliable.true) (rw c.sent_port-port.ensures at c.over_connection.ensures)

pub returns-else-is_reliable : goal.returns-else-is_reliable
returns-else-is_reliable c =
    datagram (sym c.is_reliable.ensures ∙ c.if-is_reliable.false) (rw c.sent_port-port.ensures at c.by_datagram.ensures)
