use Rattle.std.proofs.lemmas.List.Elements.{All-nil}
use Rattle.benchmarks.proofs.proxy.desk.empty.Goals as goal

pub returns : goal.returns
returns c = λ seat. rw c.in-Ok.ensures (record { ready = All-nil _; held = All-nil _; waiting = All-nil _; ended = All-nil _ })
