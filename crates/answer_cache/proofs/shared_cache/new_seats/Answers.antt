use Rattle.std.proofs.Common.{List, ◌+◌, ◌++◌, ◌∷◌, [], ap, sym, ◌∙◌}
use Rattle.answer_cache.specs.Shared.{SharedView, cache_view}
use Rattle.answer_cache.proofs.Seating.{new-view, seats-more}
use Rattle.answer_cache.proofs.shared_cache.new_seats.Goals as goal

pub seats-preserved : goal.seats-preserved
seats-preserved c =
    let i = c.seats.invariant in
    let cache = cache_view c.args.handles.now.seen.book c.args.seats c.args.handles.now.groups in
    let dealt = c.deal.ensures in
    let seat = new-view c.deal.result c.none.result cache c.seats.handles.seen.book c.seats.handles.next c.seats.handles.seats
    c.seats.handles.groups c.seats._seat
    dealt.handle (λ j. cache_view (i.book j) (i.next.1 j) (i.next.2 j)) i.next.0 c.none.ensures in record {
      handles = dealt.handles;
      next = (dealt.next ∙ ap (λ n. n + 1) i.next.0, dealt.seats ∙ i.next.1, dealt.groups ∙ i.next.2);
      book = dealt.book ∙ i.book;
      made = ◌∙◌ {A = List SharedView} c.in_ok-push.ensures.items
          (◌∙◌ {A = List SharedView} (λ j. i.made j ++ seat j ∷ []) (sym (seats-more cache c.seats._seat)));
    }
