use Rattle.crossbeam_channel.specs.Claims.{view}
use Rattle.sip_workers.proofs.NextPut.{put-next}
use Rattle.sip_workers.proofs.putting.put_all.Goals as goal

pub put-requires-clause-next : goal.put-requires-clause-next
put-requires-clause-next g c =
    put-next g.J.Dealt.batches c.args.batches.now (view c.batches.own).put c.batches.batch-index c.requires.batches
    c.batches.invariant.put c.batches-test.true
