use Rattle.std.proofs.Common.{length, refl, ap, sym, ◌∙◌}
use Rattle.answer_log.specs.Rules.{heads_of}
use Rattle.answer_log.proofs.Openings.{kept_open, heads-length}
use Rattle.answer_log.proofs.Trades.{counts_calm}
use Rattle.answer_log.proofs.log.Log.open.Goals as goal

pub open_row-seen-requires : goal.open_row-seen-requires
open_row-seen-requires c = (
  kept_open c.args.seats c.args.groups c.requires.seats c.requires.groups.0 c.requires.groups.1,
  λ xs. counts_calm c.open-start.result.0.names xs,
  c.open-start.ensures.start.1,
)

pub returns-clause-groups : goal.returns-clause-groups
returns-clause-groups c = (
  ap length c.in_ok-heads.ensures.heads ∙ heads-length c.open_row-seen.result.1.book c.args.groups,
  refl,
)

pub invariant_of-result : goal.invariant_of-result
invariant_of-result c =
    let heads = c.in_ok-heads.ensures.heads in
    let rest = c.in_ok-heads.ensures.rest in
    let pen = c.take-pen.ensures.pen in
    let idle = c.tracked-idle in
    let many = ap length heads ∙ heads-length c.open_row-seen.result.1.book c.args.groups in
    let book = ap (λ w. w.book) idle.ensures.0 ∙ (pen.0 ∙ rest.0) in
    let key = ap (λ w. w.key) idle.ensures.0 ∙ (ap (λ p. p.key) pen.1 ∙ (rest.1 ∙ sym many)) in (
      heads ∙ (λ i. heads_of (sym book i) (sym many i)),
      λ i. record {
        tracked = (idle.ensures.0 i).tracked;
        key = key i;
        book = idle.result.book;
      },
    )
