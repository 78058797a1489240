use Rattle.std.proofs.Common.{take}
use Rattle.std.specs.List.{filter_map}
use Rattle.sip_resolver.specs.Questions.{IsLeast}
use Rattle.sip_resolver.proofs.queue.Queue.next_until.Given as goal

abbrev pub invariant-items : goal.invariant-items
invariant-items g l = IsLeast (filter_map g.T.Timed.until_of (take l.at l.self-inside.items.items)) l.least
