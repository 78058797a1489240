use Rattle.std.proofs.Common.{◌≡◌, ◌≤◌, Some, take}
use Rattle.std.specs.List.{sum_by}
use Rattle.sip_resolver.specs.Earliest.{ends_at}
use Rattle.sip_resolver.proofs.queue.Queue.count_at.Given as goal

abbrev pub invariant-items : goal.invariant-items
invariant-items g l = record {
  count_is : l.count ≡ sum_by (λ it. ends_at (Some l.moment) (g.T.Timed.until_of it)) (take l.at l.self-inside.items.items);
  few : l.count ≤ l.at;
}
