use Rattle.std.proofs.Common.{◌≡◌, refl, ap, ◌∙◌}
use Rattle.dns_queries.proofs.Resending.{resent-found, resent-is}
use Rattle.dns_queries.specs.Events.{sent_again}
use Rattle.dns_queries.proofs.tickets.send_again.Goals.{in-Some, in_default}
use Rattle.dns_queries.proofs.tickets.send_again.Goals as goal

pub returns : goal.returns
returns c entry found = elim c.match-get_mut.branch [
  | in-Some w ↦
      let item = rw found at w.in-Some.ensures.item in
      let same : w.in-Some.ticket.now ≡ entry.item = cc in
      let sent : w.send_again.new.self ≡ sent_again entry.item = w.send_again.ensures ∙ ap sent_again same in (
        c.move_to.ensures.moved
            ∙ (rw (w.list-is, resent-is c.args.at c.args.list.now.entries entry c.args.deadline w.send_again.new.self found sent) refl),
        c.move_to.ensures.found
            ∙ (rw w.list-is (resent-found c.args.at c.args.list.now.entries entry c.args.deadline w.send_again.new.self found sent)),
      )
  | in_default w ↦ let item = rw found at w.in_default.ensures.item in absurd cc
]
