use Rattle.std.proofs.Common.{[], ◌∷◌, take}
use Rattle.sip_uri.specs.declared.transport.Transport.TheVariants.{Udp, Tcp, Sctp, Tls}
use Rattle.resolution_paths.specs.Paths as spec
use Rattle.resolution_paths.specs.Sources.{Said, Went}
use Rattle.resolution_paths.proofs.paths.push_by_transports.Given as goal

abbrev pub invariant-transports : goal.invariant-transports
invariant-transports g l = record {
  ready : g.S.AnswerSource.ready l.source l.seat;
  went : (start : g.row.S-Seat.Denot) → Went g.S.AnswerSource.goes start l.fn.seat → Went g.S.AnswerSource.goes start l.seat;
  paths : (start : g.row.S-Seat.Denot) → Went g.S.AnswerSource.goes start l.fn.seat
      → spec.Adds (spec.Joined (spec.ByTransport (Said g.S.AnswerSource.goes (g.S.AnswerSource.says l.source) start) l.domain)
      (take l.transport-index (Udp ∷ Tcp ∷ Sctp ∷ Tls ∷ []))) l.fn.paths.items l.paths.items;
}
