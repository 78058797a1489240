use Rattle.std.proofs.lemmas.List.Elements.{All-nil}
use Rattle.proxy_example.proofs.proxy.new_core.Goals as goal

pub returns : goal.returns
returns g c = λ seat.
    rw c.in_ok-made.ensures (record { ready = All-nil _; held = All-nil _; waiting = All-nil _; ended = All-nil _ })
