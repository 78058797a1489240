use Rattle.std.proofs.Common.{rules}
use Rattle.sip_uri.proofs.AddressOctets.{is_ipv4}
use Rattle.sip_uri.proofs.host_part.plain_host.Goals as goal

pub returns-in-Some-clause-host : goal.returns-in-Some-clause-host
returns-in-Some-clause-host c =
    let octets = is_ipv4 c.args.text.now c.ipv4_octets.result c.ipv4_octets.ensures.found c.ipv4_octets.ensures.read in
    search (rules, octets)

pub returns-then-not-is_hostname-clause-host : goal.returns-then-not-is_hostname-clause-host
returns-then-not-is_hostname-clause-host c =
    let octets = is_ipv4 c.args.text.now c.ipv4_octets.result c.ipv4_octets.ensures.found c.ipv4_octets.ensures.read in
    search (rules, octets)

pub returns-clause-host : goal.returns-clause-host
returns-clause-host c =
    let octets = is_ipv4 c.args.text.now c.ipv4_octets.result c.ipv4_octets.ensures.found c.ipv4_octets.ensures.read in
    search (rules, octets)
