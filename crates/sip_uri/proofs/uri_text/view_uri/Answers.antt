use Rattle.sip_uri.specs.Views.{uri_of}
use Rattle.sip_uri.proofs.UriViews.{hosts_seen, uri_found, uri_seen, no_memory, long_iff, scheme_iff}
use Rattle.sip_uri.proofs.uri_text.view_uri.Goals as goal

pub returns-clause-found : goal.returns-clause-found
returns-clause-found c =
    uri_found uri_of c.args.octets.now c.uri_parts.result c.uri_parts.ensures.value c.if-octets-gt-TEXT_LIMIT.false

pub returns-clause-seen : goal.returns-clause-seen
returns-clause-seen c = uri_seen uri_of c.args.octets.now c.uri_parts.result c.uri_parts.ensures.value

pub returns-clause-hosts : goal.returns-clause-hosts
returns-clause-hosts c = hosts_seen c.uri_parts.result c.uri_parts.ensures.host c.uri_parts.ensures.maddr

pub returns-clause-memory : goal.returns-clause-memory
returns-clause-memory c = no_memory uri_of c.args.octets.now c.uri_parts.result c.uri_parts.ensures.value

pub returns-clause-long : goal.returns-clause-long
returns-clause-long c =
    long_iff uri_of c.args.octets.now c.uri_parts.result c.uri_parts.ensures.value c.if-octets-gt-TEXT_LIMIT.false

pub returns-clause-scheme : goal.returns-clause-scheme
returns-clause-scheme c =
    scheme_iff uri_of c.args.octets.now c.uri_parts.result c.uri_parts.ensures.value c.if-octets-gt-TEXT_LIMIT.false
