use Rattle.std.proofs.Common.{ℕ}
use Rattle.sip_ping.specs.Transactions.{AsksAt}
use Rattle.sip_ping.proofs.datagrams.ping_by_datagrams.Given as goal

abbrev pub invariant-rounds : goal.invariant-rounds
invariant-rounds g l = (time : ℕ) × AsksAt g.F.Flow.does l.sending l.fn.flow l.timer time l.flow
