use Rattle.std.proofs.Common.{refl}
use Rattle.rolling_resolver.proofs.Transmitting.{older-sends}
use Rattle.rolling_resolver.proofs.resolver.RollingResolver.transmit_older.Goals as goal

pub returns-clause-query : goal.returns-clause-query
returns-clause-query c =
    older-sends c.transmit.result c.transmit.new.octets c.transmit.new.self _ refl c.transmit.ensures.written
