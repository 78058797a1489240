use Rattle.std.proofs.Common.{inr, refl}
use Rattle.dns_transport.proofs.letters.respell.Goals as goal

pub returns-then-front-query : goal.returns-then-front-query
returns-then-front-query g c =
    inr record { name = c.draw_cases.new.name; same = c.draw_cases.ensures; is = refl }
