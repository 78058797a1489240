-- What is spent once a step has spent something.
use Rattle.answer_log.specs.Spending.{Spending, nothing, one_link, one_miss, one_try}
use Rattle.answer_log.specs.declared.spent.Last.{Last}
use Rattle.answer_log.specs.declared.spent.Last.TheVariants.{Nothing, Link, Try, Miss}

abbrev pub spent_with : Last → Spending
spent_with Nothing = nothing
spent_with (Link before) = one_link before.value
spent_with (Try before) = one_try before.value
spent_with (Miss before) = one_miss before.value
