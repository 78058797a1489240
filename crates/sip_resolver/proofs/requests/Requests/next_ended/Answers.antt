use Rattle.sip_resolver.proofs.Kept.{ended-less, ended-there}
use Rattle.sip_resolver.proofs.requests.Requests.next_ended.Goals as goal

pub remove-requires : goal.remove-requires
remove-requires g c =
    let it = c.self.inside in
    rw c.number.ensures
    (ended-there it.ready it.held it.waiting it.ended it.limit it.earliest it.numbers c.self.invariant c.in_ok-ended.ended c.pop.new.self
    c.in_ok-ended.ensures.0)

pub invariant_of-self-2 : goal.invariant_of-self-2
invariant_of-self-2 g c =
    let it = c.self.inside in
    let struck = rw c.number.ensures at c.remove.ensures in
    ended-less it.ready it.held it.waiting it.ended it.limit it.earliest it.numbers c.self.invariant c.in_ok-ended.ended c.pop.new.self
    c.remove.new.self c.in_ok-ended.ensures.0 c.in_ok-ended.ensures.1 struck
