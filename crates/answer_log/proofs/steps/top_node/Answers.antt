use Rattle.std.proofs.Common.{sym, ◌∙◌, ap}
use Rattle.answer_log.specs.declared.event.Event.TheVariants.{Asks}
use Rattle.answer_log.proofs.Moving.{look_moves}
use Rattle.answer_log.proofs.steps.top_node.Goals as goal

pub load-found-requires : goal.load-found-requires
load-found-requires c =
    let h = c.requires.head in
    let d = c.bid-deal.ensures in (
      ap (λ w. w.tracked) h,
      sym (ap (λ w. w.book) h),
      d.0 ∙ c.requires.fits.1,
      rw (ap (λ w. w.key) h, d.1, d.3) (look_moves c.args.book.now.log c.args.group (Asks c.args.seat 0) c.requires.group
          c.requires.fits.3),
    )
