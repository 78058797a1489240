use Rattle.std.proofs.Common.{◌≤◌}
use Rattle.dns_transport.proofs.Others.{held}
use Rattle.dns_transport.proofs.exchanges.Exchanges.take_over.Goals as goal

pub returns-clause-over : goal.returns-clause-over
returns-clause-over c =
    held (λ it. it.query.deadline ≤ c.args.now) c.args.self.now c.in-Some.at c.take_at-key.result
    c.in-Some.ensures.1 c.take_at-key.ensures.value
