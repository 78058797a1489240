use Rattle.sip_resolver.proofs.Kept.{held-less, held-there}
use Rattle.sip_resolver.proofs.requests.Requests.next_held.Goals as goal

pub remove-requires-2 : goal.remove-requires-2
remove-requires-2 g c =
    let it = c.self.inside in
    rw c.number.ensures
    (held-there it.ready it.held it.waiting it.ended it.limit it.earliest it.numbers c.self.invariant c.in_ok-task.task c.pop.new.self
    c.in_ok-task.ensures.0)

pub invariant_of-self-2 : goal.invariant_of-self-2
invariant_of-self-2 g c =
    let it = c.self.inside in
    let removed = rw c.its_until.ensures at c.remove.ensures in
    let struck = rw c.number.ensures at c.remove-2.ensures in
    held-less it.ready it.held it.waiting it.ended it.limit it.earliest it.numbers c.self.invariant c.in_ok-task.task c.pop.new.self
    c.remove.new.self c.remove-2.new.self c.in_ok-task.ensures.0 c.in_ok-task.ensures.1 removed struck
