use Rattle.std.proofs.Common.{rules}
use Rattle.sip_uri.specs.Readers.ViaFronts.{host_in_brackets}
use Rattle.sip_uri.proofs.AddressOctets.{is_ipv6}
use Rattle.sip_uri.proofs.via_parts.via_host_in_brackets.Goals as goal

pub returns-in_err-ipv6_octets-clause-host : goal.returns-in_err-ipv6_octets-clause-host
unfolding host_in_brackets
returns-in_err-ipv6_octets-clause-host c =
    let octets = is_ipv6 c.next_part.result.0.now c.ipv6_octets.result c.ipv6_octets.ensures.found c.ipv6_octets.ensures.read in
    search (rules, octets)

pub returns-clause-host : goal.returns-clause-host
unfolding host_in_brackets
returns-clause-host c =
    let octets = is_ipv6 c.next_part.result.0.now c.ipv6_octets.result c.ipv6_octets.ensures.found c.ipv6_octets.ensures.read in
    search (rules, octets)
