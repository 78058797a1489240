use Rattle.std.proofs.Common.{rules}
use Rattle.sip_uri.specs.Readers.ViaRoutes.{received}
use Rattle.sip_uri.proofs.AddressOctets.{is_ipv6}
use Rattle.sip_uri.proofs.route_params.received_address.Goals as goal

pub returns-in_err-ipv6_octets-in-None : goal.returns-in_err-ipv6_octets-in-None
unfolding received
returns-in_err-ipv6_octets-in-None c =
    let octets = is_ipv6 c.args.text.now c.ipv6_octets.result c.ipv6_octets.ensures.found c.ipv6_octets.ensures.read in
    search (rules, octets)

pub returns-in_ok-ipv6_octets-in-None : goal.returns-in_ok-ipv6_octets-in-None
unfolding received
returns-in_ok-ipv6_octets-in-None c =
    let octets = is_ipv6 c.args.text.now c.ipv6_octets.result c.ipv6_octets.ensures.found c.ipv6_octets.ensures.read in
    search (rules, octets)
