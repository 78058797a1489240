-- The URI of a server itself, which stands in a request to it (RFC 3261 11.1, 19.1.1).
use Rattle.std.specs.Prelude.{ℕ, List, [], ◌++◌, codes}
use Rattle.std.specs.Fmt.{decimal}
use Rattle.ip_text.specs.Shown.{address_text}
use Rattle.ip_text.specs.declared.address.Address.{Address}
use Rattle.sip_options.specs.Requests.{host_text}
use Rattle.sip_options.specs.declared.transport.Transport.{Transport}
use Rattle.sip_options.specs.declared.transport.Transport.TheVariants.{Udp, Tcp}
use Rattle.sip_selection.specs.declared.target.Target.{Target}

-- an address in brackets
abbrev pub bracketed : Address → List ℕ
bracketed address = codes "[" ++ (address_text address ++ codes "]")

-- the parameter of a transport: UDP needs none
abbrev pub transport_param : Transport → List ℕ
transport_param Udp = []
transport_param Tcp = codes ";transport=tcp"

-- the address and the port of the target, without a user
abbrev pub server_uri : Transport → Target → List ℕ
server_uri over target =
    codes "sip:" ++ (host_text target.address
    ++ ((codes ":" ++ decimal target.port) ++ transport_param over))
