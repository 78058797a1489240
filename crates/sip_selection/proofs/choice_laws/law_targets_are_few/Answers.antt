use Rattle.sip_selection.proofs.Counting.{few_found}
use Rattle.sip_selection.proofs.choice_laws.law_targets_are_few.Goals as goal

pub returns : goal.returns
returns c = λ request caps words given four small found is. few_found request caps words given small four
    c.law_order_is_by_priority.ensures.count found is
