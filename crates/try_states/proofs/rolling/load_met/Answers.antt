use denote.Param.Send.{IsSync, sendable}
use Rattle.std.proofs.Crossing.{crosses}
use Rattle.dns_message.specs.contracts.question.Question as Question
use Rattle.core.proofs.atomic.Sent.{Atomic-sync}
use Rattle.rolling_cache.proofs.Crossing.{rolling_sync}
use Rattle.try_states.proofs.rolling.load_met.Goals as goal

question_sync : IsSync Question.the_row
question_sync = search (sendable, crosses) depth 60 fits 100000

pub all_met-requires-sync-W : goal.all_met-requires-sync-W
all_met-requires-sync-W g c κs within = search (sendable, rolling_sync, question_sync, Atomic-sync) depth 40 fits 10000
