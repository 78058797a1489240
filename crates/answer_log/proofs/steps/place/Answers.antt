use Rattle.std.proofs.Common.{ℕ, ◌<◌, sym, ◌∙◌, ap, subst}
use Rattle.answer_log.specs.declared.event.Event.TheVariants.{Named}
use Rattle.answer_log.specs.Logs.{groups_in, In}
use Rattle.answer_log.specs.Steps.{store_of}
use Rattle.answer_log.proofs.Moving.{try_moves}
use Rattle.answer_log.proofs.steps.place.Goals as goal

pub compare_exchange-found-requires : goal.compare_exchange-found-requires
compare_exchange-found-requires c =
    let h = c.requires.head in
    let d = c.bid-deal.ensures in
    let p = c.requires.pen in
    let room = c.requires.room in
    let new_store = c.args.new_store.now in
    let P : ℕ → Type 0 = λ k. In (Named new_store.node (store_of new_store) k) c.args.book.now.log in
    let groups : ℕ = groups_in c.args.book.now.log in
    let L : ℕ → Type 0 = λ k. groups < k in (
      ap (λ w. w.tracked) h,
      sym (ap (λ w. w.book) h),
      p.0 ∙ sym (ap (λ w. w.book) h),
      d.0 ∙ c.requires.fits.1,
      rw (
        ap (λ w. w.key) h,
        d.1,
        d.3,
      ) (try_moves c.args.book.now.log room.seen c.args.pen.now.nib new_store.node (store_of new_store) c.args.old p.1
          (subst P (sym p.2) c.requires.named.0) p.3 room.later c.requires.sound c.requires.fits.3
          (subst L (sym p.2) c.requires.named.1) room.top room.room),
    )
