use Rattle.std.proofs.Common.{◌≡◌, ◌+◌, ◌≤◌, List, length}
use Rattle.std.specs.List.{AllPairs}
use Rattle.answer_cache.specs.Seats.{SeatView}
use Rattle.dns_queries.specs.Tickets.{Ticket}
use Rattle.sip_resolver.specs.Ends.{EndsMore}
use Rattle.sip_resolver.specs.Idle.{AreIn, HasMore}
use Rattle.sip_resolver.specs.QuestionTables.{IsIndex, id_in}
use Rattle.sip_resolver.specs.Questions.{Differ, Fewer}
use Rattle.sip_resolver.specs.Requests.{AreSame, Stand}
use Rattle.sip_resolver.specs.Sends.{GivesUp, IsInTime}
use Rattle.sip_resolver.proofs.waits.next_resend.Given as goal

abbrev pub invariant-dues : goal.invariant-dues
invariant-dues g l = record {
  fewer : Fewer l.fn.asker.tickets l.asker.tickets;
  index : AllPairs Differ l.fn.asker.tickets → IsIndex (id_in l.fn.ids) l.fn.asker.tickets → IsIndex (id_in l.ids) l.asker.tickets;
  stand : (seat : SeatView) → Stand g.F.Facts.gives g.F.Facts.shows seat l.fn.requests
      → Stand g.F.Facts.gives g.F.Facts.shows seat l.requests;
  ends : EndsMore (IsInTime l.fn.asker.schedule l.fn.asker.tickets l.now) l.fn.requests.ended l.requests.ended;
  few : length l.asker.tickets + l._due ≤ 4096;
  awaited : (others : List Ticket) → AreIn l.fn.asker.tickets others l.fn.requests.waiting
      → AreIn l.asker.tickets others l.requests.waiting;
  limit : l.asker.limit ≡ l.fn.asker.limit;
  gives_up : GivesUp l.now l.fn.asker l.asker;
  same : AreSame l.fn.requests l.requests;
  ready : HasMore l.fn.requests.ready l.requests.ready;
}
