use Rattle.std.proofs.Common.{◌<◌, length, arith}
use Rattle.std.proofs.lemmas.List.FromFn.{length-range_with_len}
use Rattle.std.proofs.lemmas.List.Sorted.{All-permutation, length_permutation}
use Rattle.srv_choice.proofs.Listings.{listed_order, listed_next}
use Rattle.srv_choice.proofs.Orders.{All-range}
use Rattle.srv_choice.proofs.laws.law_order_is_by_priority.Goals as goal

pub returns-clause-complete : goal.returns-clause-complete
returns-clause-complete c = λ records words from indexes next is. (listed_order records words from indexes next is).complete

pub returns-clause-by_priority : goal.returns-clause-by_priority
returns-clause-by_priority c = λ records words from indexes next is. (listed_order records words from indexes next is).by_priority

pub returns-clause-within : goal.returns-clause-within
returns-clause-within c = λ records words from indexes next is.
    All-permutation
    (λ index. index < length records) _ _ (listed_order records words from indexes next is).complete (All-range (length records))

pub returns-clause-count : goal.returns-clause-count
returns-clause-count c = λ records words from indexes next is.
    let same = length_permutation _ _ (listed_order records words from indexes next is).complete in
    omega (arith, same, length-range_with_len 0 (length records))

pub returns-clause-next : goal.returns-clause-next
returns-clause-next c = λ records words from indexes next is. listed_next records words from indexes next is
