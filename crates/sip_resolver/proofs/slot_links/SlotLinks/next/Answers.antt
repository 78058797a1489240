use Rattle.std.proofs.Common.{◌≡◌, get_or, ◌+◌, sym, ◌∙◌, arith}
use Rattle.std.proofs.lemmas.List.{get_or_read}
use Rattle.sip_resolver.proofs.Linking.{none-to-next}
use Rattle.sip_resolver.specs.SlotIndexes.{LinksView, class_of}
use Rattle.sip_resolver.proofs.slot_links.SlotLinks.next.Goals as goal

pub returns-then-class_of-clause-none : goal.returns-then-class_of-clause-none
returns-then-class_of-clause-none c = λ slots so there none later waits.
    let it : LinksView = record {
      firsts = c.self.inside.firsts.items;
      ends = c.self.inside.ends.items;
      nexts = c.self.inside.nexts.items;
      mask = c.self.inside.mask;
    } in
    let room = rw (← c.self.view_is) at c.requires in
    let same : class_of c.args.other it ≡ class_of c.args.key it =
    rw (← c.self.view_is) at (sym c.class_of.ensures.is ∙ c.if-class_of.true ∙ c.class_of-2.ensures.is) in
    let next : c.index.result.now ≡ get_or it.nexts (c.args.place + 1) 0 =
    get_or_read it.nexts _ c.index.result.now room c.index.ensures 0 in
    let behind = none later waits in
    let further = none-to-next it slots (rw (← c.self.view_is) at so) c.args.key c.args.place c.args.other there same none later waits in
    let is = c.max.ensures in omega (arith, is, next, further, behind)
