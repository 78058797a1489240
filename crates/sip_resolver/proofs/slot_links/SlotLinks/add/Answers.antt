use Rattle.std.proofs.Common.{◌≡◌}
use Rattle.std.proofs.lemmas.List.{get_or_read}
use Rattle.sip_resolver.proofs.Linking.{links-more}
use Rattle.sip_resolver.specs.SlotIndexes.{LinksView, end_of, first_of}
use Rattle.sip_resolver.proofs.slot_links.SlotLinks.add.Goals as goal

pub returns-clause-links : goal.returns-clause-links
returns-clause-links c = λ slots task long so.
    let it : LinksView = record {
      firsts = c.self.inside.firsts.items;
      ends = c.self.inside.ends.items;
      nexts = c.self.inside.nexts.items;
      mask = c.self.inside.mask;
    } in
    let class = rw (← c.self.view_is) at c.class_of-class.ensures.is in
    let of_firsts = rw (← c.self.view_is, class) at c.class_of-class.ensures.of_firsts in
    let of_ends = rw (← c.self.view_is, class) at c.class_of-class.ensures.of_ends in
    let room = rw (← c.self.view_is) at c.requires.room in
    let end : c.index-end.result.now ≡ end_of c.args.key it =
    get_or_read it.ends _ c.index-end.result.now of_ends (rw class at c.index-end.ensures) 0 in
    let first : c.index.result.now ≡ first_of c.args.key it =
    get_or_read it.firsts _ c.index.result.now of_firsts (rw class at c.index.ensures) 0 in
    rw (end, class)
    (links-more it c.args.place c.args.key c.first_with.result of_firsts of_ends room
    (λ over. c.first_with.ensures.begun (rw (end, first) over))
    (λ before. rw first at (c.first_with.ensures.kept (rw (end, first) before))) slots task long
    (rw (← c.self.view_is) at so))
