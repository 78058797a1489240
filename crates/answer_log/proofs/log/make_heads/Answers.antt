use Rattle.std.proofs.Common.{◌≡◌, ◌+◌, ◌++◌, ◌∷◌, [], ap, sym, ◌∙◌, arith, true}
use Rattle.std.proofs.lemmas.List.FromFn.{map-range_with_len_more}
use Rattle.answer_log.specs.Rules.{word_at}
use Rattle.answer_log.proofs.log.make_heads.Goals as goal

pub groups-preserved : goal.groups-preserved
groups-preserved c =
    let i = c.groups.invariant in
    let pen = c.take-pen.ensures.pen in
    let rest = c.take-pen.ensures.rest in
    let book = c.args.pens.now.book in
    let word : c.tracked.result ≡ word_at book c.groups._group = c.tracked.ensures.0 ∙ (λ j. record {
      tracked = true;
      key = (ap (λ p. p.key) pen.1 ∙ i.next) j;
      book = (pen.0 ∙ i.book) j;
    }) in record {
      book = rest.0 ∙ i.book;
      next = rest.1 ∙ ap (λ n. n + 1) i.next;
      left = let sum = i.left in let less = rest.2 in let test = c.groups-test.true in omega arith;
      heads = c.in_ok-push.ensures.items
          ∙ ((λ j. i.heads j ++ word j ∷ [])
          ∙ sym (map-range_with_len_more (word_at book) 0 c.groups._group c.groups._group (omega arith)));
    }
