use Rattle.std.proofs.Common.{◌≡◌, inr, rules}
use Rattle.dns_transport.specs.Wires.{Refuses, with_refusal}
use Rattle.dns_transport.proofs.server_wire.ServerWire.hear_whole.Goals as goal

pub returns-in-Ok-true : goal.returns-in-Ok-true
returns-in-Ok-true g c =
    let refuses : Refuses c.args.self.now.options.form c.as_slice.result.now =
    c.in-Ok-true.ensures.told.0 c.in-Ok-true.field-0-test in
    let noted : c.ask_plainly.new.self.servers.items ≡ with_refusal c.args.server c.args.self.now.servers.items = search rules in
    inr (rw c.as_slice.ensures.value at refuses, noted)
