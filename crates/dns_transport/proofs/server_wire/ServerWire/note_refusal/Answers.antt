use Rattle.std.proofs.Common.{◌≡◌, get_or, rules}
use Rattle.dns_transport.proofs.Refusals.{none_there, noted_there}
use Rattle.dns_transport.proofs.server_wire.ServerWire.note_refusal.Goals as goal

pub returns-then-server-len : goal.returns-then-server-len
returns-then-server-len g c =
    let servers = c.args.self.now.servers.items in
    let here = c.index_mut.result.now in
    let is : here ≡ get_or servers c.args.server here = search rules in
    record { noted = noted_there servers c.args.server here (search rules) is }

pub returns-else-server-len : goal.returns-else-server-len
returns-else-server-len g c = record { noted = none_there c.args.self.now.servers.items c.args.server (search rules) }
