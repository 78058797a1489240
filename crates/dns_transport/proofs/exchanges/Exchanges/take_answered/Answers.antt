use Rattle.std.proofs.Common.{◌≡◌, subst}
use Rattle.dns_transport.specs.Ends.{IsAnswered, front_of}
use Rattle.dns_transport.specs.Replies.{IsReplyTo}
use Rattle.dns_transport.proofs.Others.{held}
use Rattle.dns_transport.proofs.exchanges.Exchanges.take_answered.Goals as goal

pub returns-clause-goes : goal.returns-clause-goes
returns-clause-goes c =
    (held (IsAnswered c.args.key c.args.route c.as_slice.result.now) c.args.self.now c.in-Some.at c.take_at-key.result
    c.in-Some.ensures.1 c.take_at-key.ensures.value).goes

pub returns-clause-replies : goal.returns-clause-replies
returns-clause-replies c =
    subst (IsReplyTo (front_of c.take_at-key.result.query)) c.as_slice.ensures.value
    (held (IsAnswered c.args.key c.args.route c.as_slice.result.now) c.args.self.now c.in-Some.at c.take_at-key.result
    c.in-Some.ensures.1 c.take_at-key.ensures.value).replies
