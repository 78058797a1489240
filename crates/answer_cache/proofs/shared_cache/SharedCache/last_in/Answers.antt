use Rattle.std.proofs.Common.{◌-◌, ℕ, List, ap, length, refl, subst, sym, take, get_or, arith, ◌∙◌}
use Rattle.logbook.specs.Pages.{Book}
use Rattle.dns_message.specs.Questions.{same_question}
use Rattle.answer_log.specs.Handles.{IsNamed}
use Rattle.answer_log.specs.declared.store.Store.{Store}
use Rattle.answer_cache.specs.Nodes.{store_in}
use Rattle.answer_cache.specs.declared.index.IndexEntry.{IndexEntry}
use Rattle.answer_cache.proofs.Indexing.{Searches, fewer, found, last-entry, other-hash, passes}
use Rattle.answer_cache.proofs.shared_cache.SharedCache.last_in.Goals as goal

pub offset_bounds-left-left : goal.offset_bounds-left-left
offset_bounds-left-left c =
    let room = c.as_slice-left.type_inv.1 in
    let same = ap length c.as_slice-left.ensures.value in
    let few = c.loop-left.invariant.few in omega arith

pub returns-then-eq-clause-last : goal.returns-then-eq-clause-last
returns-then-eq-clause-last c stores tells =
    let q = c.args.asked.now.question.now in
    let log = c.args.index.now.seen.log in
    let left = c.loop-left.left.now in
    let d : IndexEntry = record { hash = 0; node = 0 } in
    let S : List IndexEntry → Type 0 = λ w. Searches q log w stores in
    let it = subst S (last-entry left d c.in-len1-up.len_at_least) (c.loop-left.invariant.searches stores tells) in
    let node = c.in-Some.node.now in
    let seat = c.in-Some.ensures.1.seat in
    let N : ℕ → Type 0 = λ number. IsNamed node.seen.book node.seen.log number (store_in seat node) node.link in
    let B : Book → Type 0 = λ book. IsNamed book node.seen.log node.node (store_in seat node) node.link in
    let named = subst N c.in-Some.ensures.0 (subst B (sym c.in-Some.ensures.1.same) c.in-Some.ensures.1.named) in (
      seat,
      found q log (take (length left - 1) left) (get_or left (length left - 1) d) stores it (store_in seat node)
          (λ store placed. c.law_placed_is_named.ensures (get_or left (length left - 1) d).node store (store_in seat node) node.link placed
          named)
          (sym c.eq.ensures.value ∙ c.if-eq.true),
    )

pub loop-left-preserved-else-eq : goal.loop-left-preserved-else-eq
loop-left-preserved-else-eq c =
    let q = c.args.asked.now.question.now in
    let log = c.args.index.now.seen.log in
    let left = c.loop-left.left.now in
    let d : IndexEntry = record { hash = 0; node = 0 } in
    let node = c.in-Some.node.now in
    let seat = c.in-Some.ensures.1.seat in
    let N : ℕ → Type 0 = λ number. IsNamed node.seen.book node.seen.log number (store_in seat node) node.link in
    let B : Book → Type 0 = λ book. IsNamed book node.seen.log node.node (store_in seat node) node.link in
    let named = subst N c.in-Some.ensures.0 (subst B (sym c.in-Some.ensures.1.same) c.in-Some.ensures.1.named) in record {
      handle = c.loop-left.invariant.handle;
      few = fewer left (length c.args.index.now.entries.items) c.loop-left.invariant.few;
      searches = λ stores tells.
          let S : List IndexEntry → Type 0 = λ w. Searches q log w stores in
          let it = subst S (last-entry left d c.in-len1-up.len_at_least) (c.loop-left.invariant.searches stores tells) in
          passes q log (take (length left - 1) left) (get_or left (length left - 1) d) stores it
          (λ store told. ap (λ (s : Store). same_question s.question q)
          (c.law_placed_is_named.ensures (get_or left (length left - 1) d).node store (store_in seat node) node.link told.placed named)
          ∙ (sym c.eq.ensures.value ∙ c.if-eq.false));
    }

pub loop-left-preserved : goal.loop-left-preserved
loop-left-preserved c =
    let q = c.args.asked.now.question.now in
    let log = c.args.index.now.seen.log in
    let left = c.loop-left.left.now in
    let d : IndexEntry = record { hash = 0; node = 0 } in record {
      handle = c.loop-left.invariant.handle;
      few = fewer left (length c.args.index.now.entries.items) c.loop-left.invariant.few;
      searches = λ stores tells.
          let S : List IndexEntry → Type 0 = λ w. Searches q log w stores in
          let it = subst S (last-entry left d c.in-len1-up.len_at_least) (c.loop-left.invariant.searches stores tells) in
          passes q log (take (length left - 1) left) (get_or left (length left - 1) d) stores it
          (λ store told. other-hash c.law_same_questions_are_equal.ensures store.question q _ refl
          (λ same. c.if-last-asked.false (told.hash ∙ (same ∙ sym c.requires.hash))));
    }
