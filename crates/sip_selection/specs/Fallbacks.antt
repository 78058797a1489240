-- A large request over UDP after all (RFC 3261 18.1.1).
use Rattle.std.specs.Prelude.{List, ◌++◌, Option, Some, None}
use Rattle.std.specs.List.{filter_map}
use Rattle.std.specs.Option.{option_map}
use Rattle.sip_uri.specs.declared.transport.Transport.{Transport}
use Rattle.sip_uri.specs.declared.transport.Transport.TheVariants.{Udp, Tcp, Sctp, Tls}
use Rattle.sip_selection.specs.declared.target.Target.{Target}

-- UDP in place of TCP
abbrev pub udp_for : Transport → Option Transport
udp_for Udp = None
udp_for Tcp = Some Udp
udp_for Sctp = None
udp_for Tls = None

-- a target over TCP, over UDP
abbrev pub over_udp : Target → Option Target
over_udp target =
    option_map (λ transport. record target { transport = transport }) (udp_for target.transport)

-- targets, and behind them all those over TCP once more, over UDP
abbrev pub with_udp_last : List Target → List Target
with_udp_last targets = targets ++ filter_map over_udp targets
