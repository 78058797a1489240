-- That what a thread of a run over a rolling cache has may go to another thread. The steps are those of its fields, since one
-- search through all of them ends at its bounds.
use denote.Param.Send.{IsSend, IsSync, sendable}
use Rattle.std.proofs.Crossing.{crosses}
use Rattle.logbook.proofs.word.Word.TheSendSync as word
use Rattle.logbook.proofs.tokens.Seen.TheSendSync as seen
use Rattle.boxcar.proofs.slot.OnceSlot.TheSendSync as slot
use Rattle.boxcar.proofs.slot.Written.TheSendSync as written
use Rattle.boxcar.proofs.tag.Tag.TheSendSync as tag
use Rattle.counted_slot.proofs.Counted.TheSendSync as counted
use Rattle.answer_log.proofs.tally.Tally.TheSendSync as tally
use Rattle.answer_log.proofs.spent.Spent.TheLaws.TheKnot.{send-Spent}
use Rattle.answer_cache.proofs.notes.Notes.TheLaws.TheKnot.{send-Notes}
use Rattle.dns_name.specs.contracts.name.Name as Name
use Rattle.answer_cache.specs.contracts.seat.Seat as Seat
use Rattle.answer_cache.specs.contracts.shared_cache.SharedCache as SharedCache
use Rattle.rolling_cache.proofs.lineage.Lineage.TheLaws.TheKnot.{send-Lineage, sync-Lineage}
use Rattle.rolling_cache.specs.contracts.generation.Generation as Generation
use Rattle.rolling_cache.specs.contracts.present.Present as Present
use Rattle.rolling_cache.specs.contracts.rolling.RollingCache as RollingCache
use Rattle.rolling_cache.specs.contracts.seat.RollingSeat as RollingSeat
use Rattle.sip_resolver.specs.contracts.facts.NoFacts as NoFacts
use Rattle.sip_resolver.specs.contracts.ids.CountingIds as CountingIds

name_send : IsSend Name.the_row
name_send = search (sendable, crosses) depth 100 fits 100000

name_sync : IsSync Name.the_row
name_sync = search (sendable, crosses) depth 100 fits 100000

ruleset parts = (
  sendable,
  crosses,
  name_send,
  name_sync,
  word.the_send,
  word.the_sync,
  seen.the_send,
  seen.the_sync,
  slot.the_send,
  slot.the_sync,
  written.the_send,
  written.the_sync,
  tag.the_send,
  tag.the_sync,
)

cache_send : IsSend SharedCache.the_row
cache_send = search parts depth 100 fits 100000

cache_sync : IsSync SharedCache.the_row
cache_sync = search parts depth 100 fits 100000

place_send : IsSend Seat.the_row
place_send = search (parts, tally.the_send, send-Spent, send-Notes) depth 100 fits 100000

generation_send : IsSend Generation.the_row
generation_send = search (sendable, crosses, cache_send, send-Lineage) depth 100 fits 100000

generation_sync : IsSync Generation.the_row
generation_sync = search (sendable, crosses, cache_sync, sync-Lineage) depth 100 fits 100000

present_send : IsSend Present.the_row
present_send = search (sendable, crosses, generation_send, generation_sync, place_send) depth 100 fits 100000

pub rolling_send : IsSend RollingCache.the_row
rolling_send = search (sendable, crosses, counted.the_send, present_send) depth 20

pub seat_send : IsSend RollingSeat.the_row
seat_send = search (sendable, crosses, generation_send, generation_sync, place_send) depth 100 fits 100000

pub facts_send : IsSend NoFacts.the_row
facts_send = search sendable depth 40

pub ids_send : IsSend CountingIds.the_row
ids_send = search sendable depth 40
