use Rattle.std.proofs.Common.{ℕ, ◌+◌, sym, ◌∙◌, ap, subst}
use Rattle.answer_log.specs.declared.event.Event.TheVariants.{Named}
use Rattle.answer_log.specs.Counts.{first_name, first_seat, first_count}
use Rattle.answer_log.specs.Steps.{Adds, store_of}
use Rattle.answer_log.proofs.Claiming.{claim_told}
use Rattle.answer_log.proofs.Moving.{claim_moves}
use Rattle.answer_log.proofs.steps.claim_node.Goals as goal

pub compare_exchange-requires : goal.compare_exchange-requires
compare_exchange-requires c =
    let h = c.requires.idle in
    let pen = c.no_pen-pen.ensures in
    let d = c.bid-deal.ensures in
    let new_store = c.args.new_store.now in (
      ap (λ w. w.tracked) h,
      sym (ap (λ w. w.book) h),
      pen.0 ∙ sym (ap (λ w. w.book) h),
      d.0 ∙ c.requires.fits.1,
      rw (ap (λ w. w.key) h, pen.1, d.1, d.3)
          (claim_moves c.args.book.now.log c.args.place new_store.node (store_of new_store) c.requires.node c.requires.fits.3
          c.requires.seat),
    )

pub returns-clause-tally : goal.returns-clause-tally
returns-clause-tally c =
    let x = c.compare_exchange in
    let q = x.ensures.7 in
    let d = c.bid-deal.ensures in
    let new_store = c.args.new_store.now in
    let s = c.settle.ensures q.3.0 q.3.1 in
    let before = sym (ap first_count (x.ensures.4 ∙ d.2)) ∙ s.4 in
    let rose = claim_told c.args.book.now.log x.new.seen.log c.bid-deal.result.ask new_store.node c.args.place
    (store_of new_store) q.0 q.3.0 d.1 c.requires.below c.requires.node c.requires.fits.3 (c.requires.counted
    ∙ before) x.ensures.6 q.3.2 in (
      (s.0, s.1 ∙ ap first_name (x.ensures.2 ∙ d.0), s.2 ∙ ap first_seat (x.ensures.4 ∙ d.2)),
      s.3 ∙ (rose.0 ∙ ap (λ j. j + 1) (sym before)),
    )

pub returns-clause-adds : goal.returns-clause-adds
returns-clause-adds c =
    let x = c.compare_exchange in
    let q = x.ensures.7 in
    let d = c.bid-deal.ensures in
    let new_store = c.args.new_store.now in
    let s = c.settle.ensures q.3.0 q.3.1 in
    let before = sym (ap first_count (x.ensures.4 ∙ d.2)) ∙ s.4 in
    let rose = claim_told c.args.book.now.log x.new.seen.log c.bid-deal.result.ask new_store.node c.args.place
    (store_of new_store) q.0 q.3.0 d.1 c.requires.below c.requires.node c.requires.fits.3 (c.requires.counted ∙ before) x.ensures.6 q.3.2 in
    let E : ℕ → Type 0 = λ j. Adds (Named new_store.node (store_of new_store) j) c.args.tally.now c.args.book.now.log x.new.seen.log in
    subst E (sym (ap (λ p. p.key) q.2)) (rose.1.0, rose.1.1, sym (before ∙ rose.1.2))
