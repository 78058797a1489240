use Rattle.sip_selection.proofs.Turned.{located-same}
use Rattle.sip_selection.proofs.choice_laws.law_fixed_order_is_of_records.Goals as goal

pub returns : goal.returns
returns c = λ request caps words other_words given turned is are.
    let exact = c.law_orders_are_exact.ensures in
    located-same (c.law_order_is_fixed.ensures exact.addresses) (c.law_order_is_fixed-2.ensures exact.servers)
    (c.law_order_is_fixed-3.ensures exact.rules) c.law_order_is_sorted.ensures.indexes given turned are words other_words request caps
    is
