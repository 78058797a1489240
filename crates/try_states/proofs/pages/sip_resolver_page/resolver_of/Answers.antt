use Rattle.std.proofs.lemmas.List.Elements.{All-nil}
use Rattle.try_states.proofs.pages.sip_resolver_page.resolver_of.Goals as goal

pub returns : goal.returns
returns g c = λ seat. c.submit.ensures.stand seat
    (rw c.in-Ok.ensures (record { ready = All-nil _; held = All-nil _; waiting = All-nil _; ended = All-nil _ }))
