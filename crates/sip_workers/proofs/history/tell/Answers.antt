use Rattle.std.proofs.Common.{}
use Rattle.sip_workers.proofs.Storing.{whole-learned}
use Rattle.sip_workers.proofs.history.tell.Goals as goal

pub returns : goal.returns
returns c =
    whole-learned c.args.notice.now.seen c.args.seat.seat c.learn.new.seat.seat c.requires.made_here.is c.learn.ensures.stays.is
    c.learn.ensures.goes_on c.learn.ensures.stores_nothing c.requires.later c.learn.ensures.told
