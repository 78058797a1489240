use Rattle.std.proofs.Common.{◌≡◌, get_or, ◌+◌, sym, ◌∙◌}
use Rattle.std.proofs.lemmas.List.{get_or_read}
use Rattle.sip_resolver.proofs.Linking.{links-less}
use Rattle.sip_resolver.specs.SlotIndexes.{LinksView, first_of}
use Rattle.sip_resolver.proofs.slot_links.SlotLinks.pass.Goals as goal

pub returns-clause-links : goal.returns-clause-links
returns-clause-links c = λ slots task there so.
    let it : LinksView = record {
      firsts = c.self.inside.firsts.items;
      ends = c.self.inside.ends.items;
      nexts = c.self.inside.nexts.items;
      mask = c.self.inside.mask;
    } in
    let class = rw (← c.self.view_is) at c.class_of-class.ensures.is in
    let of_firsts = rw (← c.self.view_is, class) at c.class_of-class.ensures.of_firsts in
    let room = rw (← c.self.view_is) at c.requires in
    let first : c.index.result.now ≡ first_of c.args.key it =
    get_or_read it.firsts _ c.index.result.now of_firsts (rw class at c.index.ensures) 0 in
    let next : c.index-next.result.now ≡ get_or it.nexts (c.args.place + 1) 0 =
    get_or_read it.nexts _ c.index-next.result.now room c.index-next.ensures 0 in
    rw class
    (links-less it c.args.place c.args.key c.first_without.result of_firsts
    (λ is. c.first_without.ensures.passed (first ∙ is) ∙ next)
    (λ isnt. c.first_without.ensures.kept (λ is. isnt (sym first ∙ is)) ∙ first) slots task there
    (rw (← c.self.view_is) at so))
