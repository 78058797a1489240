use Rattle.dns_transport.specs.Ends.{IsAnsweredInOtherLetters}
use Rattle.dns_transport.proofs.Others.{held}
use Rattle.dns_transport.proofs.exchanges.Exchanges.take_in_other_letters.Goals as goal

pub returns-clause-goes : goal.returns-clause-goes
returns-clause-goes c =
    (held (IsAnsweredInOtherLetters c.args.key c.args.route c.args.message.now) c.args.self.now c.in-Some.at c.take_at-key.result
    c.in-Some.ensures.1 c.take_at-key.ensures.value).goes

pub returns-clause-drawn : goal.returns-clause-drawn
returns-clause-drawn c =
    (held (IsAnsweredInOtherLetters c.args.key c.args.route c.args.message.now) c.args.self.now c.in-Some.at c.take_at-key.result
    c.in-Some.ensures.1 c.take_at-key.ensures.value).drawn

pub returns-clause-replies : goal.returns-clause-replies
returns-clause-replies c =
    (held (IsAnsweredInOtherLetters c.args.key c.args.route c.args.message.now) c.args.self.now c.in-Some.at c.take_at-key.result
    c.in-Some.ensures.1 c.take_at-key.ensures.value).replies
