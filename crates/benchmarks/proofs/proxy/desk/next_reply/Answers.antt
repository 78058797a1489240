use Rattle.benchmarks.proofs.proxy.desk.next_reply.Goals as goal

pub returns-clause-stand : goal.returns-clause-stand
returns-clause-stand c = c.poll_transmit.follows.holds-at-none.stand
