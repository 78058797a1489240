-- That a worker's thread may bring home its seat. The steps are those of its fields, since one search through all of them
-- ends at its bounds.
use denote.Ref.{NamedLft}
use denote.RattleType.{RattleType}
use denote.Param.Send.{IsSend, sendable}
use Rattle.std.proofs.Crossing.{crosses}
use Rattle.logbook.proofs.tokens.Seen.TheSendSync as seen
use Rattle.answer_log.proofs.tally.Tally.TheSendSync as tally
use Rattle.answer_log.proofs.spent.Spent.TheLaws.TheKnot.{send-Spent}
use Rattle.answer_cache.proofs.notes.Notes.TheLaws.TheKnot.{send-Notes}
use Rattle.dns_name.specs.contracts.name.Name as Name
use Rattle.answer_cache.specs.contracts.seat.Seat as Seat
use Rattle.atomic_table.proofs.badge.Badge.TheSendSync as badge
use Rattle.atomic_table.proofs.shared.Seat.TheSendSync as place
use Rattle.sip_workers.specs.contracts.part.Part as Part
use Rattle.sip_workers.specs.contracts.report.Report as Report

name_send : IsSend Name.the_row
name_send = search (sendable, crosses) depth 100 fits 100000

seat_send : IsSend Seat.the_row
seat_send = search (sendable, crosses, seen.the_send, tally.the_send, send-Spent, send-Notes) depth 100 fits 100000

report_send : (a : NamedLft) → IsSend (Report.the_row a)
report_send a = search (sendable, crosses, name_send, seen.the_send) depth 100 fits 100000

pub part_send : (a : NamedLft) (W : RattleType) → IsSend W → IsSend (Part.the_row a W)
part_send a W w = search (sendable, crosses, seat_send, report_send, badge.the_send, place.the_send) depth 100 fits 100000
