use Rattle.crossbeam_channel.specs.Claims.{view}
use Rattle.sip_workers.proofs.NextPut.{end-next}
use Rattle.sip_workers.proofs.putting.put_ends.Goals as goal

pub put-requires-clause-next : goal.put-requires-clause-next
put-requires-clause-next g c =
    rw c.ends.invariant.put (end-next g.J.Dealt.batches (view c.args.own.now).put c.ends._end c.requires.some)
