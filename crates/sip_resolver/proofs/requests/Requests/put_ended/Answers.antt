use Rattle.sip_resolver.proofs.Kept.{ended-more, few-numbers}
use Rattle.sip_resolver.proofs.requests.Requests.put_ended.Goals as goal

pub add-requires : goal.add-requires
add-requires g c =
    let it = c.self.inside in
    let room = rw (← c.self.view_is) at c.requires in
    few-numbers it.ready it.held it.waiting it.ended it.limit it.earliest it.numbers c.self.invariant room

pub invariant_of-self : goal.invariant_of-self
invariant_of-self g c =
    let it = c.self.inside in
    let room = rw (← c.self.view_is) at c.requires in
    let noted = rw c.number.ensures at c.add.ensures in
    ended-more it.ready it.held it.waiting it.ended it.limit it.earliest it.numbers c.self.invariant c.args.ended c.push.new.self
    c.add.new.self c.push.ensures room noted
