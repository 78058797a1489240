use Rattle.std.proofs.Common.{length, map, sym, subst, ◌∙◌}
use Rattle.std.proofs.lemmas.List.Elements.{All-same}
use Rattle.std.specs.List.{All, range_with_len}
use Rattle.answer_cache.specs.Shared.{Belongs, CacheView, cache_view, new_seat}
use Rattle.answer_cache.proofs.Seating.{new-belong}
use Rattle.answer_cache.proofs.shared_cache.SharedCache.with_groups.Goals as goal

pub returns-clause-belong : goal.returns-clause-belong
returns-clause-belong c =
    let cache = cache_view c.in-Ok.handles.seen.book c.args.seats c.in-Ok.handles.groups in
    let made = cache_view c.in-Ok.log.book (length c.in-Ok-empty_shelves.shelves.items) c.in-Ok.log.groups in
    let B : CacheView → Type 0 = λ it. All (Belongs it) (map (new_seat cache) (range_with_len 0 c.args.seats)) in
    All-same (Belongs made) c.in-Ok-new_seats.made.items (map (new_seat cache) (range_with_len 0 c.args.seats)) c.in-Ok-new_seats.ensures
    (subst B (λ i. cache_view (sym c.in-Ok.ensures.book i) (sym c.in-Ok-empty_shelves.ensures.count i)
    ((c.in-Ok.ensures.groups.1 ∙ sym c.in-Ok.ensures.groups.0) i)) (new-belong cache c.args.seats))
