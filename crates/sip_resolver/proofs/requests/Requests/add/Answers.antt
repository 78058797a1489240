use Rattle.sip_resolver.proofs.Kept.{few-numbers, few-there, ready-more}
use Rattle.sip_resolver.proofs.requests.Requests.add.Goals as goal

pub add-requires : goal.add-requires
add-requires g c =
    let it = c.self.inside in
    let room = rw (← c.self.view_is) at c.requires in
    few-there it.ready it.held it.waiting it.ended it.limit it.earliest it.numbers c.self.invariant room

pub add-requires-2 : goal.add-requires-2
add-requires-2 g c =
    let it = c.self.inside in
    let room = rw (← c.self.view_is) at c.requires in
    few-numbers it.ready it.held it.waiting it.ended it.limit it.earliest it.numbers c.self.invariant room

pub invariant_of-self : goal.invariant_of-self
invariant_of-self g c =
    let it = c.self.inside in
    let room = rw (← c.self.view_is) at c.requires in
    let added = rw c.its_until.ensures at c.add.ensures in
    let noted = rw c.number.ensures at c.add-2.ensures in
    ready-more it.ready it.held it.waiting it.ended it.limit it.earliest it.numbers c.self.invariant c.args.task
    c.push.new.self c.add.new.self
    c.add-2.new.self c.push.ensures room added noted
