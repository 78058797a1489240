use Rattle.std.proofs.Common.{◌≡◌, ◌<◌, ◌+◌, [], ℕ, List, ap, map, sym, subst, refl, ◌∙◌, arith}
use Rattle.std.proofs.lemmas.List.Elements.{All-push}
use Rattle.std.specs.List.{All, range_with_len}
use mathlib.Core.List.{IsPrefix}
use Rattle.answer_log.specs.Histories.{IsHistory, mine}
use Rattle.answer_log.specs.Logs.{groups_in, history, seats_in}
use Rattle.answer_log.specs.declared.event.Event.{Event}
use Rattle.answer_cache.specs.Shared.{Belongs, SharedView, cache_view, view_of}
use Rattle.answer_cache.proofs.Succeeding.{alone, none-more, opened-first, seat-belongs, seat-seen, seat_seen, seats-are, seats-on}
use Rattle.answer_cache.proofs.shared_cache.SharedCache.seats_after.Goals as goal

pub deal-handle-requires-clause-seats : goal.deal-handle-requires-clause-seats
deal-handle-requires-clause-seats c =
    let n = c.seats.invariant.next in
    let test = c.seats-test.true in
    omega (arith, n.0, n.1, test)

pub meet-requires-clause-told : goal.meet-requires-clause-told
meet-requires-clause-told c =
    let i = c.seats.invariant in
    let told = c.again-told.result in
    let deal = c.deal-handle.ensures in
    let P : List Event → Type 0 = λ log. IsPrefix log told.log in
    let seats = ap (λ b. seats_in b.log) c.again-told.ensures
    ∙ (c.requires.first.0.seats ∙ (c.requires.first.2 ∙ sym i.next.1)) in
    let groups = ap (λ b. groups_in b.log) c.again-told.ensures
    ∙ (c.requires.first.0.groups ∙ (c.requires.groups.1 ∙ sym i.next.2)) in
    let some = c.requires.next.2 in
    let many = i.next.1 in (
      ap (λ b. b.book) c.again-told.ensures ∙ (c.requires.here.1 ∙ sym (ap (λ v. v.book) c.self.view_is)),
      ap (λ b. b.names) c.again-told.ensures ∙ (c.requires.here.2 ∙ sym (ap (λ b. b.names) (deal.seen.1 ∙ i.seen))),
      subst P (sym deal.handle.log)
          (opened-first told.log c.seats.handles.seats c.seats.handles.groups seats groups (omega (arith, some, many))),
    )

pub seats-preserved : goal.seats-preserved
seats-preserved c =
    let i = c.seats.invariant in
    let deal = c.deal-handle.ensures in
    let met = c.meet.ensures in
    let told = c.again-told.result in
    let groups : ℕ = c.args.self.now.groups in
    let cache = cache_view c.args.self.now.book c.args.seats groups in
    let handle = c.meet.new.handle in
    let notes = c.none-in-seats.result in
    let number = deal.handle.number ∙ i.next.0 in
    let many = met.number.1 ∙ (deal.handle.count ∙ i.next.1) in
    let so = met.number.2 ∙ (deal.handle.group_count ∙ i.next.2) in
    let its = ap (λ b. b.book) met.book ∙ (ap (λ b. b.book) c.again-told.ensures ∙ c.requires.here.1) in
    let grown = ap (λ b. b.log) met.book in
    let view = view_of handle notes in
    let K : ℕ → Type 0 = λ n. IsHistory n (history told.log) in
    let H : List Event → Type 0 = λ log. mine (history log) c.deal-handle.result.number ≡ [] in
    let N : ℕ → Type 0 = λ n. mine (history told.log) n ≡ [] in
    let M : List SharedView → Type 0 = λ made. map (λ seat. seat.seat) made ≡ map (seat_seen groups (history told.log))
    (range_with_len 0 (c.seats._seat + 1)) in
    let B : List SharedView → Type 0 = λ made. All (Belongs cache) made in record {
      some = omega arith;
      handles = deal.handles;
      next = (deal.next ∙ ap (λ n. n + 1) i.next.0, deal.seats ∙ i.next.1, deal.groups ∙ i.next.2);
      seen = deal.seen.0 ∙ i.seen;
      made = subst M (sym c.in_ok-push-2.ensures.items)
          (seats-on c.seats.made.items view groups (history told.log) c.seats._seat i.made
          (seat-seen handle notes told.log groups c.seats._seat grown so (met.number.0 ∙ number) c.none-in-seats.ensures));
      belong = subst B (sym c.in_ok-push-2.ensures.items)
          (All-push (Belongs cache) c.seats.made.items view i.belong
          (seat-belongs handle notes cache told.log grown (λ j. cache_view (its j) (many j) (so j))
          (subst K (ap (λ log. groups_in log) (sym grown) ∙ met.handle.groups) c.law_log_keeps_its_rule.ensures.history)));
      alone = none-more (history told.log) c.seats._seat i.alone
          (subst N number (met.seen.own ∙ subst H (sym deal.handle.log) refl));
    }

pub returns-clause-seats : goal.returns-clause-seats
returns-clause-seats c =
    let i = c.seats.invariant in
    let told = c.again-told.result in
    let seats = ap (λ b. seats_in b.log) c.again-told.ensures ∙ (c.requires.first.0.seats ∙ c.requires.first.2) in
    let past = c.seats-test.false in
    let A : ℕ → Type 0 = λ n. All (λ store. store.seat < n) (history told.log) in
    let all = alone c.args.seats (history told.log) (subst A seats c.law_log_keeps_its_rule.ensures.seats)
    (λ seat some low. i.alone seat some (omega arith)) in
    let same = sym all ∙ (ap (λ b. mine (history b.log) 0) c.again-told.ensures ∙ c.requires.own) in
    let last : c.seats._seat ≡ c.args.seats = omega arith in
    let S : ℕ → Type 0 = λ groups. map (λ seat. seat.seat) c.seats.made.items
    ≡ map (seat_seen groups (history told.log)) (range_with_len 0 c.seats._seat) in
    subst S (sym c.requires.groups.2) i.made
    ∙ (ap (λ n. map (seat_seen c.args.carried.now.groups (history told.log)) (range_with_len 0 n)) last
    ∙ seats-are c.args.carried.now (history told.log) (range_with_len 0 c.args.seats) same)
