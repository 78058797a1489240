-- The names of transports (RFC 3261 25.1).
use Rattle.std.specs.Prelude.{ℕ, List, [], ◌∷◌, if◌then◌else◌}
use Rattle.std.specs.Str.{str_eq_ignore_ascii_case}
use Rattle.sip_uri.specs.declared.transport.Transport.TheVariants.{Udp, Tcp, Sctp, Tls}
use Rattle.sip_uri.specs.declared.transport.Spoken.{Spoken}
use Rattle.sip_uri.specs.declared.transport.Spoken.TheVariants.{Known, Other}

-- the transport that a name means: `udp`, `tcp`, `sctp` or `tls`, in letters of any case; any other
-- name means another transport
abbrev pub spoken_of : List ℕ → Spoken
spoken_of name =
    if str_eq_ignore_ascii_case name (117 ∷ 100 ∷ 112 ∷ []) then Known Udp else
    (if str_eq_ignore_ascii_case name (116 ∷ 99 ∷ 112 ∷ []) then Known Tcp else
    (if str_eq_ignore_ascii_case name (115 ∷ 99 ∷ 116 ∷ 112 ∷ []) then Known Sctp else
    (if str_eq_ignore_ascii_case name (116 ∷ 108 ∷ 115 ∷ []) then Known Tls else Other)))
