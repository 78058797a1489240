-- That a rolling resolver may go to another thread. The steps are those of its fields, each at the row that it has as a
-- field.
use denote.Param.Send.{IsSend, sendable}
use Rattle.std.proofs.Crossing.{crosses}
use Rattle.answer_cache.proofs.notes.Notes.TheLaws.TheKnot.{send-Notes}
use Rattle.answer_cache.specs.contracts.list_cache.ListCache as ListCache
use Rattle.answer_cache.specs.contracts.list_cache.ListSeat as ListSeat
use Rattle.answer_cache.specs.contracts.store_list.StoreList as StoreList
use Rattle.sip_resolver.proofs.Crossing.{answer_send, answer_sync, name_send, resolved_send, resolver_send}
use Rattle.sip_resolver.specs.contracts.facts.NoFacts as NoFacts
use Rattle.rolling_resolver.specs.contracts.generation.Generation as Generation
use Rattle.rolling_resolver.specs.contracts.resolver.RollingResolver as RollingResolver

cache_send : IsSend ListCache.the_row
cache_send = search sendable depth 40

stores_send : IsSend (StoreList.the_field).row
stores_send = search (sendable, crosses, answer_send, answer_sync, name_send) depth 100 fits 100000

seat_send : IsSend (ListSeat.the_field).row
seat_send = search (sendable, stores_send, send-Notes) depth 100 fits 100000

facts_send : IsSend NoFacts.the_row
facts_send = search sendable depth 40

generation_send : IsSend (Generation.the_field).row
generation_send = search (sendable, crosses, resolver_send, cache_send, facts_send, seat_send) depth 100 fits 100000

pub rolling_send : IsSend RollingResolver.the_row
rolling_send = search (sendable, crosses, generation_send, resolved_send, cache_send) depth 100 fits 100000
