use Rattle.std.proofs.Common.{Some, ◌∙◌, arith}
use Rattle.sip_resolver.proofs.Earlier.{as-never, earliest-found, moments-in, parts}
use Rattle.sip_resolver.specs.Earliest.{ends_at, untils_in}
use Rattle.sip_resolver.proofs.requests.Requests.find_earliest.Goals as goal

pub returns-in_default : goal.returns-in_default
returns-in_default g c =
    let it = c.args.self.now in
    rw c.never.ensures
    (as-never (untils_in it.ready it.held it.waiting) (moments-in it.ready it.held it.waiting ∙ c.in_default.ensures))

pub overflow_add-can_go_on : goal.overflow_add-can_go_on
overflow_add-can_go_on g c =
    let few = c.self.invariant.room.few in
    let fits = c.self.invariant.fits in
    let one = c.count_at.ensures.few in
    let two = c.count_at-2.ensures.few in
    omega (arith, few, fits, one, two)

pub overflow_add-can_go_on-2 : goal.overflow_add-can_go_on-2
overflow_add-can_go_on-2 g c =
    let few = c.self.invariant.room.few in
    let fits = c.self.invariant.fits in
    let one = c.count_at.ensures.few in
    let two = c.count_at-2.ensures.few in
    let three = c.count_at-3.ensures.few in
    omega (arith, few, fits, one, two, three)

pub returns : goal.returns
returns g c =
    let it = c.self.inside in
    let least = rw (← c.self.view_is, ← moments-in it.ready.items it.held.items it.waiting.items) at c.in-Some.ensures in
    let all = parts (ends_at (Some c.in-Some.moment)) it.ready.items it.held.items it.waiting.items in
    let one = c.count_at.ensures.count in
    let two = c.count_at-2.ensures.count in
    let three = c.count_at-3.ensures.count in
    rw (← c.self.view_is, c.at.ensures)
    (earliest-found (untils_in it.ready.items it.held.items it.waiting.items) c.in-Some.moment _ least
    (omega (arith, all, one, two, three)))
