use Rattle.std.proofs.Common.{◌+◌, refl}
use Rattle.rolling_resolver.specs.Rolling.{too_long}
use Rattle.rolling_resolver.proofs.generation.transmit.Goals as goal

pub returns-in_err-length-clause-quiet : goal.returns-in_err-length-clause-quiet
returns-in_err-length-clause-quiet c =
    let polls = rw c.in_ok-message.was at c.poll_transmit.follows.holds-at-none in
    let message = c.in_ok-message.message in
    let sent = polls.sends.2 in
    rw c.from_residual-in_err-length.ensures
    (too_long (c.args.mark + polls.sends.0) message.send message.over message.octets.now (record {
      id = polls.sends.0;
      ticket = sent.ticket;
      out = sent.there;
      are = sent.are;
      sends = sent.send;
      named = refl;
    }) c.in_err-length.ensures.room)
