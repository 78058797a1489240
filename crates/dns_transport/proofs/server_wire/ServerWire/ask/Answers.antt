use Rattle.std.proofs.Common.{◌≡◌, Some, inl, refl, sym, ap, ◌∙◌, slice_get, rules}
use Rattle.dns_transport.proofs.Outgoing.{goes_out}
use Rattle.dns_transport.specs.Deadlines.{IsAfter, time_over}
use Rattle.dns_transport.specs.Sends.{way_to}
use Rattle.dns_transport.specs.declared.lookup.Lookup.{Lookup}
use Rattle.dns_transport.proofs.server_wire.ServerWire.ask.Goals as goal

pub returns-in-Ok-send-clause-asked : goal.returns-in-Ok-send-clause-asked
returns-in-Ok-send-clause-asked g c =
    let some : slice_get c.args.self.now.servers.items c.args.server ≡ Some c.in-Some.to = sym c.server.ensures ∙ c.in-Some.is in
    let options : c.note_sent.new.self.options ≡ c.args.self.now.options = search rules in
    let waits : IsAfter g.S.System.shows (time_over c.args.self.now.options.reply_times c.args.over_tcp) c.deadline.result =
    rw options at c.deadline.ensures in
    let put = c.in-Ok-send.ensures.out in
    let before : c.note_sent.new.self.transport.exchanges ≡ c.args.self.now.transport.exchanges = search rules in
    let number : c.note_sent.new.lookup.number ≡ c.args.lookup.now.number =
    ap (λ (it : Lookup). it.number) c.note_sent.ensures.lookup in
    λ _.
    rw some
    (inl (record {
      id = c.in-Some-fresh_id.id;
      free = search rules;
      octets = c.in-Ok.octets.items;
      respelled = search rules;
      plain = search rules;
      out =
          goes_out c.args.self.now.options.reply_times c.args.lookup.now.number c.in-Ok.octets.items
          (way_to c.in-Some.to c.args.over_tcp) c.args.self.now.transport.exchanges _ c.send.new.self.exchanges _
          (record { key = put.0; shared = put.1; behind = put.2 }) before number refl refl waits;
      sent = search rules;
    }))
