use Rattle.std.proofs.Common.{◌≡◌, Some, rules, get_or, sym, ap, subst, ◌∙◌}
use Rattle.std.proofs.lemmas.List.Elements.{All-set}
use Rattle.dns_transport.specs.WireTries.{IsReplyTo, IsTry}
use Rattle.dns_transport.specs.declared.wire_try.WireReply.{WireReply}
use Rattle.dns_transport.specs.declared.wire_try.WireTry.{WireTry}
use Rattle.dns_transport.proofs.try_log.TryLog.keep_reply.Goals as goal

replied : (one : WireTry) (reply : WireReply) → IsTry one → IsReplyTo one.id reply → IsTry (record one { reply = Some reply })
replied one reply was is = record { query = was.query; id = was.id; asks = was.asks; reply = is }

pub invariant_of-self : goal.invariant_of-self
invariant_of-self c =
    let tries = c.self.inside.tries.items in
    let at = c.args.at in
    let here = c.index_mut.result.now in
    let inside = rw (← c.self.view_is) at c.requires.inside in
    let id-is = rw (← c.self.view_is) at c.requires.of_id in
    let is : here ≡ get_or tries at here = search rules in
    let old : IsTry here = subst IsTry (sym is) (c.self.invariant at here inside) in
    let of-id = ap (λ (one : WireTry). one.id) is ∙ id-is here in
    let reply = c.in_ok-reply.reply in
    let back : IsReplyTo here.id reply = rw of-id c.in_ok-reply.ensures in
    All-set IsTry tries at (record here { reply = Some reply }) (replied here reply old back) c.self.invariant
