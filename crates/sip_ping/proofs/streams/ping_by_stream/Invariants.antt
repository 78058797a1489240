use Rattle.std.proofs.Common.{ℕ}
use Rattle.sip_ping.specs.Messages.{ReadsAt}
use Rattle.sip_ping.proofs.streams.ping_by_stream.Given as goal

abbrev pub invariant-rounds : goal.invariant-rounds
invariant-rounds g l = (time : ℕ) × ReadsAt g.F.Flow.does l.sending l.fn.flow l.kept.items time l.flow
