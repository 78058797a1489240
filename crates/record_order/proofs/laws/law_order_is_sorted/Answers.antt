use Rattle.record_order.proofs.Indexes.{at-indexes}
use Rattle.record_order.proofs.Placing.{all-there}
use Rattle.record_order.proofs.Sorting.{sorted-all}
use Rattle.record_order.proofs.laws.law_order_is_sorted.Goals as goal

pub returns-clause-complete : goal.returns-clause-complete
returns-clause-complete g c = λ records. all-there g.T.Ranked.ranks records

pub returns-clause-sorted : goal.returns-clause-sorted
returns-clause-sorted g c = λ exact records. sorted-all g.T.Ranked.ranks exact records

pub returns-clause-indexes : goal.returns-clause-indexes
returns-clause-indexes g c = λ records. at-indexes g.T.Ranked.ranks records
